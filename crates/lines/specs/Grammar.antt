-- The lines of a circuit's text: how the number of qubits and each gate are written, and why a line is refused.
use Rattle.std.specs.Prelude.{◌≡◌, ℕ, ◌<◌, ◌≤◌, Bool, true, false, cond, List, [], ◌++◌, codes, decimal}
use Rattle.rows.specs.declared.kind.Kind.{Kind}
use Rattle.rows.specs.declared.refusal.Refusal.{Refusal}
use Rattle.rows.specs.Kinds.{double, name, turns, k_suits}
use Rattle.rows.specs.Steps.{Gate, one, two, kind_of, k_of, first_of, second_of, placed}
use Rattle.rows.specs.declared.placed.Placed.{Placed}

-- the line that gives the number of qubits: `qubits 7`
abbrev pub heading : ℕ → List ℕ
heading n = codes "qubits " ++ decimal n

-- line gives the circuit n qubits
pub record Heads (line : List ℕ) (n : ℕ) : Type 0 where
  pub some : 1 ≤ n
  pub few : n ≤ 64
  pub is : line ≡ heading n

-- what ends the line of a kind on two qubits: a comma and k for crk, nothing for the others
abbrev pub ending : Kind → ℕ → List ℕ
ending κ k = cond (turns κ) (codes "," ++ decimal k) []

-- what comes after the number of the first qubit
abbrev pub tail : Gate → List ℕ
tail (one κ k a) = []
tail (two κ k a b) = codes ",q" ++ (decimal b ++ ending κ k)

-- the one line that writes a gate: `h q0`, `cnot q3,q5`, `crk q1,q2,4`
abbrev pub line_of : Gate → List ℕ
line_of g = name (kind_of g) ++ (codes " q" ++ (decimal (first_of g) ++ tail g))

-- the gate stands on two qubits
abbrev pub paired : Gate → Bool
paired (one κ k a) = false
paired (two κ k a b) = true

-- a gate that has a line: as many qubits as its kind takes, a k that suits it, and numbers of at most four digits
pub record Writable (g : Gate) : Type 0 where
  pub places : paired g ≡ double (kind_of g)
  pub k : k_suits (kind_of g) (k_of g) ≡ true
  pub first : first_of g < 10000
  pub second : second_of g < 10000

-- line writes the gate g
pub record Writes (line : List ℕ) (g : Gate) : Type 0 where
  pub writable : Writable g
  pub is : line ≡ line_of g

-- the gate's qubits are qubits of a circuit of n
pub record Within (n : ℕ) (g : Gate) : Type 0 where
  pub first : first_of g < n
  pub second : second_of g < n

-- the gate stands on two qubits that are one and the same
abbrev pub Doubled : Gate → Type 0
Doubled (one κ k a) = ⊥
Doubled (two κ k a b) = a ≡ b

-- why the line with the number `at` is refused where a gate should stand:
-- in a circuit of n qubits, and where rows for so many more gates are left
pub data LineFits (n left : ℕ) (line : List ℕ) (at : ℕ) : Refusal → ℕ → Type 0 where
  unreadable : ((g : Gate) → ¬ Writes line g) → LineFits n left line at Refusal.Unreadable at
  off_circuit : (g : Gate) → Writes line g → ¬ Within n g → LineFits n left line at Refusal.OffCircuit at
  twice : (g : Gate) → Writes line g → Doubled g → LineFits n left line at Refusal.Twice at
  no_row : left ≡ 0 → LineFits n left line at Refusal.NoRow at

-- the gate that a line was read as
abbrev pub gate_in : Placed ℕ → Gate
gate_in g = placed (λ a. a) g
