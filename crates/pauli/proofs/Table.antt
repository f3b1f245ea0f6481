-- Every gate that Pauli does is conjugation by the gate's matrix: one computed table.
use Rattle.std.proofs.Common.{◌≡◌, ℕ, Bool, true, false, cond, ◌&&◌, sym, refl, ◌∙◌, subst, arith}
use Rattle.std.proofs.lemmas.Bool.{and_parts, cond-true}
use Rattle.std.proofs.lemmas.Bool.Decides.{nat_tests}
use Rattle.rows.specs.declared.kind.Kind.{Kind}
use Rattle.rows.specs.Kinds.{double}
use Rattle.rows.specs.Steps.{Gate, one, two, kind_of, fits}
use Rattle.machine.specs.Local.{Cells, differ, wires, local}
use Rattle.machine.proofs.LocalLaws.{does}
use Rattle.machine.proofs.OneGate.{gated_off, at_one, at_first, at_second}
use Rattle.pauli.specs.declared.Letter.{Letter}
use Rattle.pauli.specs.Letters.{pauli_rule, pauli_known, on_one, on_two}
use Rattle.pauli.specs.Matrices.{Matrix, ◌·◌, ◌⊗◌, dagger, scaled, signed, matrix_of, unitary, norm}
use Rattle.pauli.specs.Conjugation.{Turns, Conjugates, operator}
use Rattle.pauli.proofs.Tests.{every, every_at, same, sound_same, kinds, all_kinds, letters, all_letters, signs, all_signs}

turns : Kind → Matrix → Matrix → Bool
turns κ P Q = same (unitary κ · P) (Q · unitary κ) && same (unitary κ · P · dagger (unitary κ)) (scaled (norm κ) Q)

turns_sound : (κ : Kind) (P Q : Matrix) → turns κ P Q ≡ true → Turns κ P Q
unfolding turns
turns_sound κ P Q e =
    let q = and_parts (same (unitary κ · P) (Q · unitary κ)) (same (unitary κ · P · dagger (unitary κ)) (scaled (norm κ) Q)) e in
    record { passes = sound_same (unitary κ · P) (Q · unitary κ) q.0; conjugates = sound_same (unitary κ · P · dagger (unitary κ)) (scaled (norm κ) Q) q.1 }

-- one letter or two, and the sign, before and after
abbrev before : Bool → Letter → Letter → Bool → Matrix
before x u v m = signed m (cond x (matrix_of u ⊗ matrix_of v) (matrix_of u))

abbrev after : Bool → Kind → Letter → Letter → Bool → Matrix
after x κ u v m = cond x
    (signed (differ m (on_two κ u v).flips) (matrix_of (on_two κ u v).first ⊗ matrix_of (on_two κ u v).second))
    (signed (differ m (on_one κ u.x u.z).flips) (matrix_of (on_one κ u.x u.z).cell))

entry : Kind → Letter → Letter → Bool → Bool
entry κ u v m = cond (pauli_known κ) (turns κ (before (double κ) u v m) (after (double κ) κ u v m)) true

-- the table: every kind, both letters and the sign
table : every (λ κ. every (λ u. every (λ v. every (λ m. entry κ u v m) signs) letters) letters) kinds ≡ true
unfolding entry turns
table = refl

entries : (κ : Kind) (u v : Letter) (m : Bool) → pauli_known κ ≡ true → Turns κ (before (double κ) u v m) (after (double κ) κ u v m)
unfolding entry
entries κ u v m h = turns_sound κ (before (double κ) u v m) (after (double κ) κ u v m)
    (sym (cond-true (pauli_known κ) (turns κ (before (double κ) u v m) (after (double κ) κ u v m)) true h)
    ∙ every_at (λ m. entry κ u v m) signs
    (every_at (λ v. every (λ m. entry κ u v m) signs) letters
    (every_at (λ u. every (λ v. every (λ m. entry κ u v m) signs) letters) letters
    (every_at (λ κ. every (λ u. every (λ v. every (λ m. entry κ u v m) signs) letters) letters) kinds table κ (all_kinds κ))
    u (all_letters u))
    v (all_letters v))
    m (all_signs m))

-- a gate that fits has the wires of its kind
one_is_single : (n : ℕ) (κ : Kind) (k a : ℕ) → fits n (one κ k a) ≡ true → double κ ≡ false
one_is_single n κ k a f = grind (arith, nat_tests)

two_is_double : (n : ℕ) (κ : Kind) (k a b : ℕ) → fits n (two κ k a b) ≡ true → double κ ≡ true
two_is_double n κ k a b f = grind (arith, nat_tests)

wired : (g : Gate) (u : Cells Letter) → pauli_known (kind_of g) ≡ true → fits (wires u) g ≡ true → Turns (kind_of g) (operator g u) (operator g ((local pauli_rule).gated g u))
wired (one κ k a) u h f =
    let x = u.cell a in
    let t : Turns κ (before false x x u.minus) (after false κ x x u.minus) =
    subst (λ (d : Bool). Turns κ (before d x x u.minus) (after d κ x x u.minus)) (one_is_single (wires u) κ k a f) (entries κ x x u.minus h) in
    subst (λ (Q : Matrix). Turns κ (operator (one κ k a) u) Q)
    (sym (λ i. signed (does pauli_rule (one κ k a) u h f i).minus (matrix_of (at_one pauli_rule κ k a u h f i)))) t
wired (two κ k a b) u h f =
    let x = u.cell a in
    let y = u.cell b in
    let t : Turns κ (before true x y u.minus) (after true κ x y u.minus) =
    subst (λ (d : Bool). Turns κ (before d x y u.minus) (after d κ x y u.minus)) (two_is_double (wires u) κ k a b f) (entries κ x y u.minus h) in
    subst (λ (Q : Matrix). Turns κ (operator (two κ k a b) u) Q)
    (sym (λ i. signed (does pauli_rule (two κ k a b) u h f i).minus
    (matrix_of (at_first pauli_rule κ k a b u h f i) ⊗ matrix_of (at_second pauli_rule κ k a b u h f i)))) t

pub conjugates : Conjugates
conjugates g u h f = record { wires = wired g u h f; rest = λ w n. gated_off pauli_rule g u w n }
