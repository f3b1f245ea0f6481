-- What the parts of the reader find.
use Rattle.std.specs.Prelude.{◌≡◌, ℕ, ◌≤◌, List, [], ◌∷◌, map, length, take}
use Rattle.rows.specs.declared.refusal.Refusal.{Refusal}
use Rattle.rows.specs.declared.refusal.Fault.{Fault}
use Rattle.rows.specs.declared.row.Gate.{Gate as GateRow}
use Rattle.rows.specs.Steps.{Gate, row_of_gate}
use Rattle.lines.specs.Grammar.{Heads}
use Rattle.text.specs.declared.circuit.Circuit.{Circuit}
use Rattle.text.specs.Reading.{Statement, Gates, IsCircuit, filled}

-- the first of the statements gives n qubits, and rest comes after it
abbrev pub Headed : List Statement → ℕ → List Statement → Type 0
Headed [] n rest = ⊥
Headed (s ∷ ss) n rest = Heads s.bytes n × (rest ≡ ss)

-- no statement gives the number of qubits first
abbrev pub NotHeaded : List Statement → Fault → Type 0
NotHeaded [] f = f ≡ record { refusal = Refusal.NoCircuit; place = 0 }
NotHeaded (s ∷ ss) f = ((n : ℕ) → ¬ Heads s.bytes n) × (f ≡ record { refusal = Refusal.NoCircuit; place = s.number })

-- the statements are gates, whose rows stand first in new, before what old has there
pub record Filled (n room : ℕ) (ss : List Statement) (count : ℕ) (old new : List GateRow) : Type 0 where
  pub gs : List Gate
  pub gates : Gates n room ss gs
  pub counted : count ≡ length gs
  pub fit : count ≤ room
  pub rows : new ≡ filled (map row_of_gate gs) old

-- the statements are a circuit, whose rows stand first in the table
pub record Found (room : ℕ) (ss : List Statement) (c : Circuit) (table : List GateRow) : Type 0 where
  pub gs : List Gate
  pub circuit : IsCircuit room ss c.qubits gs
  pub counted : c.gates ≡ length gs
  pub fit : c.gates ≤ room
  pub rows : take c.gates table ≡ map row_of_gate gs
