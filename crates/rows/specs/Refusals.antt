-- How a call that checks many conditions answers. `Fits r q` says that the condition of refusal r holds at place q.
use Rattle.std.specs.Prelude.{ℕ, ◌<◌}
use Rattle.rows.specs.declared.refusal.Refusal.{Refusal}
use Rattle.rows.specs.declared.refusal.Fault.{Fault}
use Rattle.rows.specs.Numbers.{rank}

-- no condition holds
abbrev pub Accepted : (Refusal → ℕ → Type 0) → Type 0
Accepted Fits = (r : Refusal) (q : ℕ) → ¬ Fits r q

-- the condition of the answer holds, at its first place, and none of lower rank does
pub record Turned (Fits : Refusal → ℕ → Type 0) (f : Fault) : Type 0 where
  pub holds : Fits f.refusal f.place
  pub first : (q : ℕ) → q < f.place → ¬ Fits f.refusal q
  pub least : (r : Refusal) (q : ℕ) → rank r < rank f.refusal → ¬ Fits r q
