-- The lines of the answers.
use Rattle.std.specs.Prelude.{ℕ, List, ◌++◌, Some, None, Ok, Err, codes, decimal, Option, Result}
use Rattle.std.specs.List.{flat_map}
use Rattle.rows.specs.declared.refusal.Fault.{Fault}
use Rattle.book.specs.declared.verdict.Counts.{Counts}
use Rattle.rows.specs.Printed.{refusal_line}
use Rattle.audit.specs.declared.trial.Trial.{Trial}

-- the line of an answer: `kept`, or the refusal's number and place
abbrev pub answer_line : Option Fault → List ℕ
answer_line None = codes "kept\n"
answer_line (Some f) = refusal_line f

abbrev pub trial_line : Trial → List ℕ
trial_line t = answer_line t.answer

-- what is counted: `gates 2 steps 3 exchanges 1 end 8`
abbrev pub counts_line : Counts → List ℕ
counts_line c =
    codes "gates " ++ (decimal c.gates ++ (codes " steps " ++ (decimal c.kept ++ (codes " exchanges " ++ (decimal c.exchanges ++ (codes " end " ++ (decimal c.last ++ codes "\n")))))))

-- the last line: what is counted, or the lowest open gate, `open 1`
abbrev pub last_line : Result Counts Fault → List ℕ
last_line (Ok c) = counts_line c
last_line (Err f) = codes "open " ++ (decimal f.place ++ codes "\n")

-- all lines: one for each answer, and the last
abbrev pub answers_text : List Trial → Result Counts Fault → List ℕ
answers_text ts r = flat_map trial_line ts ++ last_line r
