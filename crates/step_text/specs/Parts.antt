-- The parts of a step's line, as they are read from its front.
use Rattle.std.specs.Prelude.{◌≡◌, ℕ, ◌≤◌, Bool, true, false, List, ◌++◌}
use Rattle.lines.specs.Number.{Digit, Unlike}
use Rattle.rows.specs.StepKinds.{on_two, has_k}
use Rattle.step_text.specs.StepLines.{part, operands}

-- s begins with a comma and the number v if one is written, else v is 0; it goes on with rest
pub record Follows (written : Bool) (s : List ℕ) (v : ℕ) (rest : List ℕ) : Type 0 where
  pub small : v ≤ 255
  pub unwritten : written ≡ false → v ≡ 0
  pub ended : written ≡ true → Unlike Digit rest
  pub split : s ≡ part written v ++ rest

-- s is what comes after the name of a kind, by its code, at the wires a and b with this k
pub record Operands (c : ℕ) (s : List ℕ) (a b k : ℕ) : Type 0 where
  pub first : a ≤ 255
  pub second : b ≤ 255
  pub k_small : k ≤ 255
  pub single : on_two c ≡ false → b ≡ 0
  pub no_k : has_k c ≡ false → k ≡ 0
  pub is : s ≡ operands c a b k
