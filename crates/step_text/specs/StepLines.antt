-- The lines of steps, and the line of a refusal.
use Rattle.std.specs.Prelude.{◌≡◌, ℕ, ◌≤◌, Bool, true, false, List, [], ◌++◌, codes, decimal}
use Rattle.rows.specs.declared.row.Step.{Step as StepRow}
use Rattle.rows.specs.StepKinds.{step_name, on_two, has_k}

-- a comma and the number, or nothing
abbrev pub part : Bool → ℕ → List ℕ
part true n = codes "," ++ decimal n
part false n = []

-- what comes after the name, of a kind by its code: the wires, and k if the kind has one
abbrev pub operands : ℕ → ℕ → ℕ → ℕ → List ℕ
operands c a b k = decimal a ++ (part (on_two c) b ++ part (has_k c) k)

-- what comes after the start: the name of the kind between two spaces, and the rest
abbrev pub named : ℕ → List ℕ → List ℕ
named c rest = codes " " ++ (step_name c ++ (codes " " ++ rest))

-- the one line of a plain row, without its newline: `0 t 2`, `6 cnot 1,3`, `6 crk 1,3,4`, `0 swap 0,1`
abbrev pub step_line : StepRow → List ℕ
step_line r = decimal r.start ++ named r.kind (operands r.kind r.first.0 r.second.0 r.k)

-- a row that has a line. Its wires and k may still be wrong for a chip: no such wire, one wire twice, a k past 31
pub record Plain (r : StepRow) : Type 0 where
  -- its kind is a kind of gate or the exchange
  pub low : 1 ≤ r.kind
  pub high : r.kind ≤ 12
  -- a kind on one wire has 0 for the second
  pub single : on_two r.kind ≡ false → r.second.0 ≡ 0
  -- a kind without k has 0 for it
  pub no_k : has_k r.kind ≡ false → r.k ≡ 0
  -- the wires and k are bytes, and the start is a number of 32 bits
  pub first : r.first.0 ≤ 255
  pub second : r.second.0 ≤ 255
  pub k : r.k ≤ 255
  pub start : r.start ≤ 4294967295

-- line is the line of the row r
pub record WritesStep (line : List ℕ) (r : StepRow) : Type 0 where
  pub plain : Plain r
  pub is : line ≡ step_line r
