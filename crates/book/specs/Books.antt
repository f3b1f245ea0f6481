-- What the calls of a book answer, by the sheets that it agrees with.
use Rattle.std.specs.Prelude.{◌≡◌, ℕ, ◌<◌, true, List, length, Some, Ok, Err, Result}
use Rattle.rows.specs.declared.row.Step.{Step as StepRow}
use Rattle.rows.specs.declared.place.Logical.{Logical}
use Rattle.rows.specs.declared.placed.Placed.{Placed}
use Rattle.rows.specs.declared.row.Action.{Action}
use Rattle.rows.specs.declared.refusal.Fault.{Fault}
use Rattle.rows.specs.Refusals.{Accepted, Turned}
use Rattle.rows.specs.Steps.{Gate, Step, gate, swap, fits, first_of, second_of, gate_at, step_at, step_of}
use Rattle.sheet.specs.Sheets.{Plan, Log as SheetLog, starting, end, at, Next, Open, Tally}
use Rattle.sheet.specs.Refusals.{StepFits}
use Rattle.sheet.specs.Runs.{Kept}
use Rattle.plan.specs.Laying.{plan_in}
use Rattle.book.specs.declared.verdict.Counts.{Counts}
use Rattle.book.specs.declared.verdict.Turn.{Turn}
use Rattle.book.specs.declared.verdict.Verdict.{Verdict}
use Rattle.book.specs.declared.book.Book.{Book}
use Rattle.book.specs.Agreeing.{Agrees}

-- the book agrees with the sheet of its plan and this log
abbrev pub Holds : Book → SheetLog → Type 0
Holds b l = Agrees (plan_in b.plan) b.log l

-- gate i is listed and open
abbrev pub ListedOpen : Plan → SheetLog → ℕ → Type 0
ListedOpen p l i = (i < length p.gates) × Open l i

-- the counts as a tally
abbrev pub tallied : Counts → Tally
tallied c = record { gates = c.gates; kept = c.kept; exchanges = c.exchanges; last = c.last }

-- the step's turn: a gate that is next, or an exchange
abbrev pub Takes : Plan → SheetLog → Step → Turn → Type 0
Takes p l t (Turn.Gate i) = (g : Gate) × (t ≡ gate g) × Next p l g i
Takes p l t (Turn.Exchange a b) = t ≡ swap a.0 b.0

-- the step is a gate on the qubits, of so many, that its wires hold at these places
pub record Brings (places : List ℕ) (qubits : ℕ) (t : Step) (g : Placed Logical) : Type 0 where
  pub first : first_of (gate_at g) < qubits
  pub second : second_of (gate_at g) < qubits
  pub same : t ≡ gate (at places (gate_at g))

-- the step is no gate on qubits of so many at these places
abbrev pub BringsNone : List ℕ → ℕ → Step → Type 0
BringsNone places qubits t = (g : Gate) → fits qubits g ≡ true → ¬ (t ≡ gate (at places g))

-- a step row that no condition refuses: the step, its end, its turn
pub record Allows (p : Plan) (l : SheetLog) (r : StepRow) (v : Verdict) : Type 0 where
  pub accepted : Accepted (StepFits p l r)
  pub decoded : step_of p.chart.wires r ≡ Some (step_at v.action)
  pub ends : v.end ≡ end p.chart (starting (step_at v.action) r.start)
  pub takes : Takes p l (step_at v.action) v.turn

-- the answer to a step row: what keeping it does, or the refusal to be answered
abbrev pub Judges : Plan → SheetLog → StepRow → Result Verdict Fault → Type 0
Judges p l r (Ok v) = Allows p l r v
Judges p l r (Err f) = Turned (StepFits p l r) f

-- the step row is kept, the answer is its step, and the book agrees with the sheet after it
pub record KeepsStep (b : Book) (l : SheetLog) (r : StepRow) (a : Action) (b' : Book) : Type 0 where
  pub after : SheetLog
  pub kept : Kept (plan_in b.plan) l r after
  pub decoded : step_of (plan_in b.plan).chart.wires r ≡ Some (step_at a)
  pub agrees : Holds b' after
