-- How deep a circuit is, and which qubits a result can depend on, by chains of its gates.
use Rattle.std.specs.Prelude.{◌≡◌, ℕ, zero, suc, ◌+◌, ◌<◌, ◌≤◌, ◌⊎◌, List, map, length, Some}
use Rattle.rows.specs.declared.row.Gate.{Gate as GateRow}
use Rattle.rows.specs.Steps.{Gate, gate_of}
use Rattle.machine.specs.Chains.{Chain}

-- each of the rows is a good row of a circuit of n qubits, and they write these gates
abbrev pub Decodes : ℕ → List GateRow → List Gate → Type 0
Decodes n rows gs = map (gate_of n) rows ≡ map (λ g. Some g) gs

-- the gates of a circuit of n qubits are d deep: some chain of them has d gates, and none has more
pub record Deep (n : ℕ) (gs : List Gate) (d : ℕ) : Type 0 where
  pub from : ℕ
  pub to : ℕ
  pub on_qubit : to < n
  pub chain : List Gate
  pub is_chain : Chain n gs from to chain
  pub long : d ≡ length chain
  pub no_longer : (j i : ℕ) (c : List Gate) → i < n → Chain n gs j i c → length c ≤ d

-- the result of qubit q can depend on qubit j: some chain of gates leads from j to q
abbrev pub Source : ℕ → List Gate → ℕ → ℕ → Type 0
Source n gs q j = (c : List Gate) × Chain n gs j q c

-- of the numbers below n, just s have the property
abbrev pub Counts : (ℕ → Type 0) → ℕ → ℕ → Type 0
Counts P zero s = s ≡ 0
Counts P (suc n) s = (P n × ((t : ℕ) × Counts P n t × (s ≡ t + 1))) ⊎ ((¬ P n) × Counts P n s)
