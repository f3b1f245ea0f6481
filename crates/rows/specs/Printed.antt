-- A refusal as text.
use Rattle.std.specs.Prelude.{ℕ, List, ◌++◌, codes, decimal}
use Rattle.rows.specs.declared.refusal.Fault.{Fault}
use Rattle.rows.specs.Numbers.{number}

-- the word refused, the number of the refusal, and its place
abbrev pub refusal_text : Fault → List ℕ
refusal_text f = codes "refused " ++ (decimal (number f.refusal) ++ (codes " " ++ decimal f.place))

-- the line of a refusal, with its newline: `refused 2 7`
abbrev pub refusal_line : Fault → List ℕ
refusal_line f = refusal_text f ++ codes "\n"
