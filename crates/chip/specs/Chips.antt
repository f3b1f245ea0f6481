-- The chart of a chip, and what `Chip::new` answers.
use Rattle.std.specs.Prelude.{◌≡◌, ℕ, List, IfOk, Ok, Err, Result}
use Rattle.rows.specs.declared.refusal.Fault.{Fault}
use Rattle.rows.specs.Refusals.{Accepted, Turned}
use Rattle.chip.specs.declared.chip.Chip.{Chip}
use Rattle.chip.specs.Charts.{Chart, chart, ChipFits, GoodChart}
use Rattle.chip.specs.Worked.{WorkedChips}
use Rattle.chip.specs.Tables.{chart_at}

-- the chart that a chip holds
abbrev pub chart_of : Chip → Chart
chart_of c = chart_at c.wires c.couplings.rows c.durations

-- a chip if no condition of refusal holds, and it holds the chart of the records; else the refusal to be answered
abbrev pub ChipAnswer : ℕ → List ℕ → Result Chip Fault → Type 0
ChipAnswer n bs (Ok c) = Accepted (ChipFits n bs) × (chart_of c ≡ chart n bs)
ChipAnswer n bs (Err f) = Turned (ChipFits n bs) f

-- both are chips, with one chart, or both are one refusal
abbrev pub SameAnswer : Result Chip Fault → Result Chip Fault → Type 0
SameAnswer (Ok c) (Ok d) = chart_of c ≡ chart_of d
SameAnswer (Ok c) (Err g) = ⊥
SameAnswer (Err f) (Ok d) = ⊥
SameAnswer (Err f) (Err g) = f ≡ g

-- the answer to a number of wires and record bytes, and what holds of it
pub record MadeChip (n : ℕ) (bs : List ℕ) (r : Result Chip Fault) : Type 0 where
  pub answer : ChipAnswer n bs r
  -- no other answer fits
  pub only : (other : Result Chip Fault) → ChipAnswer n bs other → SameAnswer r other
  -- a chip's chart is as a chart should be
  pub good : IfOk r (λ c. GoodChart (chart_of c))
  -- the chips that are worked by hand
  pub worked : WorkedChips
