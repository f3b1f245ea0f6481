-- Worked cases of the machines, from their rules alone.
use Rattle.std.specs.Prelude.{◌≡◌, ℕ, true, false, not, List, [], ◌∷◌, map, nat_lt}
use Rattle.std.specs.List.{range_with_len}
use Rattle.rows.specs.declared.kind.Kind.{Kind}
use Rattle.rows.specs.Steps.{one, two, gate, pair_below}
use Rattle.machine.specs.Machines.{Acts, run}
use Rattle.machine.specs.Local.{Cells, wires, local}
use Rattle.pauli.specs.declared.Letter.{Letter}
use Rattle.pauli.specs.Letters.{letter, pauli_rule}
use Rattle.cone.specs.Sets.{cone_rule, own_wires}
use Rattle.depth.specs.Counts.{depth_rule, zeros}

-- the letters X and Y
abbrev pub X : Letter
X = letter true false

abbrev pub Y : Letter
Y = letter true true

-- what the first n wires read
abbrev pub readings : {State : Type 0} → Acts State → ℕ → State → List ℕ
readings m n u = map (m.reads u) (range_with_len 0 n)

-- Y at wire a, and then s there: X, and the sign flips
pub record YUnderS (a : ℕ) (u : Cells Letter) : Type 0 where
  pub letter_after : ((local pauli_rule).gated (one Kind.S 0 a) u).cell a ≡ X
  pub sign_after : ((local pauli_rule).gated (one Kind.S 0 a) u).minus ≡ not u.minus

-- X at wire a and Y at wire b, and then cz there: Y and X, and the sign flips
pub record XYUnderCz (a b : ℕ) (u : Cells Letter) : Type 0 where
  pub first_after : ((local pauli_rule).gated (two Kind.Cz 0 a b) u).cell a ≡ Y
  pub second_after : ((local pauli_rule).gated (two Kind.Cz 0 a b) u).cell b ≡ X
  pub sign_after : ((local pauli_rule).gated (two Kind.Cz 0 a b) u).minus ≡ not u.minus

-- all of them
pub record MachineCases : Type 0 where
  pub y_under_s : (a : ℕ) (u : Cells Letter) → nat_lt a (wires u) ≡ true → u.cell a ≡ Y → YUnderS a u
  pub x_y_under_cz : (a b : ℕ) (u : Cells Letter) → pair_below (wires u) a b ≡ true → u.cell a ≡ X → u.cell b ≡ Y → XYUnderCz a b u
  -- {0}, {1}, {2} under cnot 0,1 and cnot 1,2 are {0,1}, {0,1,2}, {0,1,2}
  pub three_cones : readings (local cone_rule) 3 (run (local cone_rule) (gate (two Kind.Cnot 0 0 1) ∷ gate (two Kind.Cnot 0 1 2) ∷ []) (own_wires 3)) ≡ 3 ∷ 7 ∷ 7 ∷ []
  -- 0, 0 under h 0 and cnot 0,1 are 2, 2
  pub two_depths : readings (local depth_rule) 2 (run (local depth_rule) (gate (one Kind.H 0 0) ∷ gate (two Kind.Cnot 0 0 1) ∷ []) (zeros 2)) ≡ 2 ∷ 2 ∷ []
