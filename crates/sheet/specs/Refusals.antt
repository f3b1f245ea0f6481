-- Why each call is refused, and where. A constructor is a condition with its place.
use Rattle.std.specs.Prelude.{◌≡◌, ℕ, ◌<◌, ◌≤◌, Bool, false, ◌⊎◌, List, length, Some, None, slice_index, slice_index_or}
use Rattle.rows.specs.declared.kind.Kind.{Kind}
use Rattle.rows.specs.declared.row.Gate.{Gate as GateRow}
use Rattle.rows.specs.declared.row.Step.{Step as StepRow}
use Rattle.rows.specs.declared.refusal.Refusal.{Refusal}
use Rattle.rows.specs.Steps.{Gate, Step, kind_of, gate_of, gate_row, step_of}
use Rattle.chip.specs.Charts.{ChipFits, joined}
use Rattle.sheet.specs.Sheets.{Plan, Log, Sheet, laid, Layout, kept, starting, end, larger_free, Ordered, Open}

-- 1 to 64 qubits
pub record QubitsCounted (qubits : ℕ) : Type 0 where
  pub some_qubit : 1 ≤ qubits
  pub not_many : qubits ≤ 64

-- a wire that is not below n, or is used before
abbrev pub BadPlace : ℕ → List ℕ → ℕ → Type 0
BadPlace n places q = (n ≤ slice_index places q) ⊎ ((r : ℕ) × (r < q) × (slice_index places r ≡ slice_index places q))

-- why first places of so many qubits on n wires are bad, and at which qubit
pub data BadPlaces (n qubits : ℕ) (places : List ℕ) : ℕ → Type 0 where
  bad_qubits : ¬ QubitsCounted qubits → BadPlaces n qubits places 0
  bad_length : QubitsCounted qubits → ¬ (length places ≡ qubits) → BadPlaces n qubits places qubits
  bad_place : {q : ℕ} → QubitsCounted qubits → length places ≡ qubits → q < qubits → BadPlace n places q → BadPlaces n qubits places q

abbrev pub row_number : List GateRow → ℕ → GateRow
row_number rows i = slice_index_or rows i (gate_row 0 0 0 0)

-- why gate rows of a circuit of so many qubits are bad, and at which row
pub data BadRows (qubits : ℕ) (rows : List GateRow) : ℕ → Type 0 where
  bad_row : {i : ℕ} → i < length rows → gate_of qubits (row_number rows i) ≡ None → BadRows qubits rows i
  too_many : 1024 < length rows → BadRows qubits rows 1024

-- row i writes a gate of a kind that is not among those known
pub record UnknownRow (knows : Kind → Bool) (qubits : ℕ) (rows : List GateRow) (i : ℕ) : Type 0 where
  pub listed : i < length rows
  pub written : Gate
  pub decoded : gate_of qubits (row_number rows i) ≡ Some written
  pub unknown : knows (kind_of written) ≡ false

pub data Laid : Sheet → Type 0 where
  is_laid : {p : Plan} {l : Log} → Laid (laid p l)

-- laying a plan, over a machine of this width and these kinds
pub data LayFits (wide : ℕ) (knows : Kind → Bool) (s : Sheet) (x : Layout) : Refusal → ℕ → Type 0 where
  already : Laid s → LayFits wide knows s x Refusal.LaidAlready 0
  of_chip : {r : Refusal} {q : ℕ} → ChipFits x.wires x.records r q → LayFits wide knows s x r q
  bad_places : {q : ℕ} → BadPlaces x.wires x.qubits x.places q → LayFits wide knows s x Refusal.BadPlaces q
  bad_gate : {i : ℕ} → BadRows x.qubits x.rows i → LayFits wide knows s x Refusal.BadGate i
  narrow : wide < x.wires → LayFits wide knows s x Refusal.Narrow wide
  unknown_kind : {i : ℕ} → UnknownRow knows x.qubits x.rows i → LayFits wide knows s x Refusal.UnknownKind i

-- a step offered to a laid plan: shape, coupling, clock (two conditions), order, room
pub data StepFits (p : Plan) (l : Log) (r : StepRow) : Refusal → ℕ → Type 0 where
  bad_step : step_of p.chart.wires r ≡ None → StepFits p l r Refusal.BadStep (kept l)
  uncoupled : (t : Step) → step_of p.chart.wires r ≡ Some t → joined p.chart t ≡ false → StepFits p l r Refusal.Uncoupled (kept l)
  busy : (t : Step) → step_of p.chart.wires r ≡ Some t → r.start < larger_free l.free t → StepFits p l r Refusal.Busy (kept l)
  late : (t : Step) → step_of p.chart.wires r ≡ Some t → 4294967295 < end p.chart (starting t r.start) →
      StepFits p l r Refusal.Late (kept l)
  not_next : (t : Step) → step_of p.chart.wires r ≡ Some t → ¬ Ordered p l t → StepFits p l r Refusal.NotNext (kept l)
  full : 262144 ≤ kept l → StepFits p l r Refusal.Full (kept l)

-- clearing a laid plan
pub data ClearFits (p : Plan) (l : Log) : Refusal → ℕ → Type 0 where
  still_open : {i : ℕ} → i < length p.gates → Open l i → ClearFits p l Refusal.Open i
