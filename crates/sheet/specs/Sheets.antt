-- The sheet of a plan: what is laid, what is kept, and what a kept step leaves.
use Rattle.std.specs.Prelude.{◌≡◌, ℕ, ◌+◌, ◌<◌, max, Bool, true, false, List, [], ◌∷◌, ◌++◌, map, length, replicate, slice_index, slice_index_or, slice_set}
use Rattle.rows.specs.declared.kind.Kind.{Kind}
use Rattle.rows.specs.declared.row.Gate.{Gate as GateRow}
use Rattle.rows.specs.Steps.{Gate, one, Step, gate, swap, Timed, first_wire, second_wire, shares, relabel, trade, gates_of}
use Rattle.machine.specs.Machines.{exchanges}
use Rattle.chip.specs.Charts.{Chart, chart, step_cycles}

-- what is laid: the chip, the first wire of each qubit, and the circuit
pub record Plan : Type 0 where
  pub chart : Chart
  pub first : List ℕ
  pub gates : List Gate

-- what changes: each qubit's wire now, which gates are done, the cycle from which each wire is free, and the kept steps in order
pub record Log : Type 0 where
  pub places : List ℕ
  pub done : List Bool
  pub free : List ℕ
  pub steps : List Timed

pub data Sheet : Type 0 where
  unlaid : Sheet
  laid : Plan → Log → Sheet

-- what a plan is laid from: the number of wires, chip records, the number of qubits, first places, gate rows
pub record Layout : Type 0 where
  pub wires : ℕ
  pub records : List ℕ
  pub qubits : ℕ
  pub places : List ℕ
  pub rows : List GateRow

abbrev pub plan_of : Layout → Plan
plan_of x = record { chart = chart x.wires x.records; first = x.places; gates = gates_of x.qubits x.rows }

-- freshly laid: all gates open, every wire free from cycle 0, nothing kept
abbrev pub fresh : Plan → Log
fresh p = record { places = p.first; done = replicate (length p.gates) false; free = replicate p.chart.wires 0; steps = [] }

-- the number of kept steps
abbrev pub kept : Log → ℕ
kept l = length l.steps

-- a step with its start cycle
abbrev pub starting : Step → ℕ → Timed
starting t s = record { step = t; start = s }

-- the steps without their start cycles
abbrev pub untimed : List Timed → List Step
untimed ts = map (λ t. t.step) ts

-- the end of a step: start plus duration
abbrev pub end : Chart → Timed → ℕ
end c t = t.start + step_cycles c t.step

-- the greatest end, 0 without steps
abbrev pub last_end : Chart → List Timed → ℕ
last_end c [] = 0
last_end c (t ∷ ts) = max (end c t) (last_end c ts)

-- what is counted of a plan without open gates
pub record Tally : Type 0 where
  pub gates : ℕ
  pub kept : ℕ
  pub exchanges : ℕ
  pub last : ℕ

abbrev pub tally : Plan → Log → Tally
tally p l = record { gates = length p.gates; kept = kept l; exchanges = length (exchanges (untimed l.steps)); last = last_end p.chart l.steps }

-- the gate at the places of its qubits
abbrev pub at : List ℕ → Gate → Gate
at places = relabel (λ q. slice_index places q)

abbrev pub gate_number : Plan → ℕ → Gate
gate_number p i = slice_index_or p.gates i (one Kind.X 0 0)

-- gate i is not done
abbrev pub Open : Log → ℕ → Type 0
Open l i = slice_index_or l.done i true ≡ false

abbrev pub NoneOpen : Plan → Log → Type 0
NoneOpen p l = (i : ℕ) → i < length p.gates → ¬ Open l i

-- gate i is of the front: it is open, and shares no qubit with an earlier open gate
pub record Front (p : Plan) (l : Log) (i : ℕ) : Type 0 where
  pub listed : i < length p.gates
  pub is_open : Open l i
  pub earliest : (j : ℕ) → j < i → Open l j → shares (gate_number p j) (gate_number p i) ≡ false

-- gate i at its qubits' wires now
abbrev pub placed : Plan → Log → ℕ → Gate
placed p l i = at l.places (gate_number p i)

-- the gate g at wires is gate i of the front, first wire for first
pub record Next (p : Plan) (l : Log) (g : Gate) (i : ℕ) : Type 0 where
  pub front : Front p l i
  pub same : placed p l i ≡ g

-- the order rule: a gate is next; an exchange has no order rule
abbrev pub Ordered : Plan → Log → Step → Type 0
Ordered p l (gate g) = (i : ℕ) × Next p l g i
Ordered p l (swap a b) = Unit {0}

-- the larger free cycle of the step's wires
abbrev pub larger_free : List ℕ → Step → ℕ
larger_free free t = max (slice_index free (first_wire t)) (slice_index free (second_wire t))

-- a kept step's wires are free from its end
abbrev pub freed : List ℕ → Step → ℕ → List ℕ
freed free t e = slice_set (slice_set free (first_wire t) e) (second_wire t) e

-- the wires trade their qubits; either may be empty
abbrev pub places_traded : ℕ → ℕ → List ℕ → List ℕ
places_traded a b = map (trade a b)

-- the log after a kept step that leaves these places and done gates
abbrev pub logged : Plan → Log → Timed → List ℕ → List Bool → Log
logged p l t places done = record { places = places; done = done; free = freed l.free t.step (end p.chart t); steps = l.steps ++ t ∷ [] }

-- what a kept step leaves: its gate is done, or its wires trade their qubits
abbrev pub Keeps : Plan → Log → Step → ℕ → Log → Type 0
Keeps p l (gate g) s l' = (i : ℕ) × Next p l g i × (l' ≡ logged p l (starting (gate g) s) l.places (slice_set l.done i true))
Keeps p l (swap a b) s l' = l' ≡ logged p l (starting (swap a b) s) (places_traded a b l.places) l.done
