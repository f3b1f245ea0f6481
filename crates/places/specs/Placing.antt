-- What places mean: the list of the qubits' wires.
use Rattle.std.specs.Prelude.{◌≡◌, ℕ, ◌<◌, ◌≤◌, ◌⊎◌, List, map, take, slice_index}
use Rattle.rows.specs.declared.place.Wire.{Wire}
use Rattle.rows.specs.declared.refusal.Refusal.{Refusal}
use Rattle.rows.specs.declared.refusal.Fault.{Fault}
use Rattle.sheet.specs.Refusals.{BadPlaces}
use Rattle.places.specs.declared.places.Places.{Places}

-- the wire of each qubit
abbrev pub places_of : Places → List ℕ
places_of s = take s.qubits s.at

-- wires as numbers
abbrev pub numbers : List Wire → List ℕ
numbers ws = map (λ w. w.0) ws

-- as many wires and as many qubits as before
pub record SameSize (s t : Places) : Type 0 where
  pub wires : t.wires ≡ s.wires
  pub qubits : t.qubits ≡ s.qubits

-- no wire of the chip, or one that holds a qubit
abbrev pub Taken : Places → ℕ → Type 0
Taken s w = (s.wires ≤ w) ⊎ ((q : ℕ) × (q < s.qubits) × (slice_index (places_of s) q ≡ w))

-- these are the places of so many qubits on n wires, and they are not bad
pub record Lays (n qubits : ℕ) (places : List ℕ) (s : Places) : Type 0 where
  pub good : (q : ℕ) → ¬ BadPlaces n qubits places q
  pub wires : s.wires ≡ n
  pub counted : s.qubits ≡ qubits
  pub same : places_of s ≡ places

-- the refusal of bad places, at the first qubit
pub record Misplaced (n qubits : ℕ) (places : List ℕ) (f : Fault) : Type 0 where
  pub refusal : f.refusal ≡ Refusal.BadPlaces
  pub holds : BadPlaces n qubits places f.place
  pub first : (q : ℕ) → q < f.place → ¬ BadPlaces n qubits places q
