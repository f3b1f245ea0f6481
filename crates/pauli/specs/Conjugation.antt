-- What the rule of Pauli means: a gate U takes the product P to U P U†.
use Rattle.std.specs.Prelude.{◌≡◌, ℕ, true, false}
use Rattle.rows.specs.declared.kind.Kind.{Kind}
use Rattle.rows.specs.Steps.{Gate, one, two, kind_of, fits, has}
use Rattle.machine.specs.Machines.{HasTrueCnot}
use Rattle.machine.specs.Local.{Cells, wires, local}
use Rattle.pauli.specs.declared.Letter.{Letter}
use Rattle.pauli.specs.Letters.{pauli_rule, pauli_known}
use Rattle.pauli.specs.Matrices.{Matrix, ◌·◌, ◌⊗◌, dagger, scaled, signed, matrix_of, unitary, norm}

-- The gate's matrix U turns P into Q: U P = Q U, and so U P U† = Q; or n Q where U U† is n times the unit matrix.
pub record Turns (κ : Kind) (P Q : Matrix) : Type 0 where
  pub passes : unitary κ · P ≡ Q · unitary κ
  pub conjugates : unitary κ · P · dagger (unitary κ) ≡ scaled (norm κ) Q

-- the sign and the letters at the wires of a gate, as one operator
abbrev pub operator : Gate → Cells Letter → Matrix
operator (one κ k a) u = signed u.minus (matrix_of (u.cell a))
operator (two κ k a b) u = signed u.minus (matrix_of (u.cell a) ⊗ matrix_of (u.cell b))

-- the gate takes the product u to v: it turns the sign and the letters at its wires, and the letters at the others stay
pub record Conjugated (g : Gate) (u v : Cells Letter) : Type 0 where
  pub wires : Turns (kind_of g) (operator g u) (operator g v)
  pub rest : (w : ℕ) → has g w ≡ false → v.cell w ≡ u.cell w

-- every gate that Pauli does is conjugation by the gate's matrix, for all letters and signs
abbrev pub Conjugates : Type 0
Conjugates = (g : Gate) (u : Cells Letter) → pauli_known (kind_of g) ≡ true → fits (wires u) g ≡ true → Conjugated g u ((local pauli_rule).gated g u)

-- what is promised of the rule
pub record PauliPromise : Type 0 where
  pub conjugates : Conjugates
  pub true_cnot : HasTrueCnot (local pauli_rule)
