-- The gates of a circuit, and what its rows are refused for.
use Rattle.std.specs.Prelude.{◌≡◌, ℕ, ◌<◌, Bool, true, false, List, map, length, take, slice_index_or}
use Rattle.rows.specs.declared.kind.Kind.{Kind}
use Rattle.rows.specs.declared.row.Gate.{Gate as GateRow}
use Rattle.rows.specs.declared.refusal.Refusal.{Refusal}
use Rattle.rows.specs.declared.refusal.Fault.{Fault}
use Rattle.rows.specs.Steps.{Gate, one, gate_at, gates_of, shares}
use Rattle.sheet.specs.Refusals.{BadRows}
use Rattle.plan.specs.declared.circuit.Circuit.{Circuit}

-- the gates of the circuit, in order
abbrev pub gates_in : Circuit → List Gate
gates_in c = map gate_at (take c.count c.gates)

abbrev pub number : List Gate → ℕ → Gate
number gs i = slice_index_or gs i (one Kind.X 0 0)

-- gate i is not done, by a table of flags
abbrev pub Undone : List Bool → ℕ → Type 0
Undone done i = slice_index_or done i false ≡ false

-- no gate before gate n that is not done has a place in common with g
abbrev pub NoneSharing : List Gate → List Bool → Gate → ℕ → Type 0
NoneSharing gs done g n = (j : ℕ) → j < n → Undone done j → shares (number gs j) g ≡ false

-- gate i is the first that is not done and has a place in common with g
pub record FirstSharing (gs : List Gate) (done : List Bool) (g : Gate) (i : ℕ) : Type 0 where
  pub listed : i < length gs
  pub undone : Undone done i
  pub common : shares (number gs i) g ≡ true
  pub before : NoneSharing gs done g i

-- gate i is g, not done, and no earlier gate that is not done has a place in common with it
pub record NextOf (gs : List Gate) (done : List Bool) (g : Gate) (i : ℕ) : Type 0 where
  pub listed : i < length gs
  pub undone : Undone done i
  pub same : number gs i ≡ g
  pub before : NoneSharing gs done g i

-- this is the circuit of the rows, and they are not bad
pub record Reads (qubits : ℕ) (rows : List GateRow) (c : Circuit) : Type 0 where
  pub good : (i : ℕ) → ¬ BadRows qubits rows i
  pub same : gates_in c ≡ gates_of qubits rows

-- the refusal of bad rows, at the first of them
pub record Miswritten (qubits : ℕ) (rows : List GateRow) (f : Fault) : Type 0 where
  pub refusal : f.refusal ≡ Refusal.BadGate
  pub holds : BadRows qubits rows f.place
  pub first : (i : ℕ) → i < f.place → ¬ BadRows qubits rows i
