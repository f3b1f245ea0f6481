-- Steps offered one after the other, and the sheets that can come about.
use Rattle.std.specs.Prelude.{◌≡◌, ℕ, ◌<◌, ◌≤◌, Bool, List, [], ◌∷◌, length, Some, slice_index}
use Rattle.rows.specs.declared.kind.Kind.{Kind}
use Rattle.rows.specs.declared.row.Step.{Step as StepRow}
use Rattle.rows.specs.Steps.{Step, step_of, GoodGate}
use Rattle.rows.specs.Refusals.{Accepted}
use Rattle.sheet.specs.Sheets.{Plan, Log, unlaid, Layout, plan_of, fresh, gate_number, Keeps}
use Rattle.sheet.specs.Refusals.{LayFits, StepFits}

-- the step row is kept: no condition of a refusal holds, and this log follows
pub record Kept (p : Plan) (l : Log) (r : StepRow) (l' : Log) : Type 0 where
  pub accepted : Accepted (StepFits p l r)
  pub step : Step
  pub decoded : step_of p.chart.wires r ≡ Some step
  pub keeps : Keeps p l step r.start l'

-- the step rows are kept one after the other
abbrev pub AllKept : Plan → Log → List StepRow → Log → Type 0
AllKept p l [] l' = l' ≡ l
AllKept p l (r ∷ rs) l' = (m : Log) × Kept p l r m × AllKept p m rs l'

-- an accepted layout gives this plan
pub record LaidPlan (p : Plan) : Type 0 where
  pub wide : ℕ
  pub knows : Kind → Bool
  pub layout : Layout
  pub accepted : Accepted (LayFits wide knows unlaid layout)
  pub given : p ≡ plan_of layout

-- the sheet can come about: the plan is that of an accepted layout, and steps kept from the fresh log on leave this log
pub record Reached (p : Plan) (l : Log) : Type 0 where
  pub plan : LaidPlan p
  pub rows : List StepRow
  pub steps : AllKept p (fresh p) rows l

-- places of so many qubits: wires below n, one to one
pub record GoodPlaces (n qubits : ℕ) (places : List ℕ) : Type 0 where
  pub long : length places ≡ qubits
  pub inside : (q : ℕ) → q < qubits → slice_index places q < n
  pub one_to_one : (q r : ℕ) → q < qubits → r < qubits → slice_index places q ≡ slice_index places r → q ≡ r

-- what holds of every laid plan, the chip's own laws apart
pub record GoodPlan (p : Plan) : Type 0 where
  pub some_wire : 1 ≤ p.chart.wires
  pub not_many : p.chart.wires ≤ 64
  pub some_qubit : 1 ≤ length p.first
  pub few_qubits : length p.first ≤ 64
  pub few_gates : length p.gates ≤ 1024
  pub places : GoodPlaces p.chart.wires (length p.first) p.first
  pub gates : (i : ℕ) → i < length p.gates → GoodGate (length p.first) (gate_number p i)
