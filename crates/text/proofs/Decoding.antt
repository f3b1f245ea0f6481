-- What is read decodes: each row is a good row of its circuit, and there is a row for each gate.
use Rattle.std.proofs.Common.{◌≡◌, ℕ, ◌-◌, ◌<◌, ◌≤◌, Bool, true, false, not, ◌&&◌, ltb, List, [], ◌∷◌, map, length, Some, sym, ap, ◌∙◌, ⊎_elim, arith}
use Rattle.std.proofs.lemmas.Bool.{cases_lt}
use Rattle.std.proofs.lemmas.Bool.Decides.{nat_tests}
use Rattle.rows.specs.declared.refusal.Refusal.{Refusal}
use Rattle.rows.specs.Kinds.{double}
use Rattle.rows.specs.Steps.{Gate, one, two, first_of, second_of, pair_below, fits, gate_of, row_of_gate, GoodGate}
use Rattle.rows.specs.Refusals.{Accepted}
use Rattle.rows.proofs.Decoding.{row_decodes}
use Rattle.lines.specs.Grammar.{Writable, Writes, Within, Doubled, off_circuit, twice}
use Rattle.text.specs.Reading.{Statement, StatementFits, Gates, IsCircuit}
use Rattle.text.proofs.Reached.{row_left}

-- there is a row for each gate
pub gates_fit : (n left : ℕ) (ss : List Statement) (gs : List Gate) → Gates n left ss gs → length gs ≤ left
gates_fit n left [] gs h = omega (arith, ap length h)
gates_fit n left (s ∷ ss) [] h = absurd h
gates_fit n left (s ∷ ss) (g ∷ gs) h =
    let some = row_left n left s h.0 in
    omega (arith, gates_fit n (left - 1) ss gs h.2)

-- a number that is not refused as off the circuit is below n
below : (n a : ℕ) → ¬ ¬ (a < n) → a < n
below n a h = ⊎_elim (λ lt. lt) (λ le. absurd (h (λ lt. omega arith))) (cases_lt a n)

single_fits : (n a : ℕ) (d : Bool) → false ≡ d → a < n → (not d && ltb a n) ≡ true
single_fits n a false e lt = grind (arith, nat_tests)
single_fits n a true e lt = e

pair_fits : (n a b : ℕ) (d : Bool) → true ≡ d → a < n → b < n → ¬ (a ≡ b) → (d && pair_below n a b) ≡ true
pair_fits n a b true e la lb apart = grind (arith, nat_tests)
pair_fits n a b false e la lb apart = sym e

fits_from : (n : ℕ) (g : Gate) → Writable g → first_of g < n → second_of g < n → ¬ Doubled g → fits n g ≡ true
fits_from n (one κ k a) w la lb apart = single_fits n a (double κ) w.places la
fits_from n (two κ k a b) w la lb apart = pair_fits n a b (double κ) w.places la lb apart

-- a gate that a statement writes and that is not refused is a gate of the circuit
pub accepted_good : (n left : ℕ) (s : Statement) (g : Gate) → Accepted (StatementFits n left s) → Writes s.bytes g → GoodGate n g
accepted_good n left s g ok w =
    let inside : ¬ ¬ Within n g = λ off. ok Refusal.OffCircuit s.number (off_circuit g w off) in
    record {
      fitting = fits_from n g w.writable (below n (first_of g) (λ h. inside (λ x. h x.first))) (below n (second_of g) (λ h. inside (λ x. h x.second))) (λ d. ok Refusal.Twice s.number (twice g w d));
      k = w.writable.k;
    }

-- the rows of the gates decode to them
pub gates_decode : (n left : ℕ) (ss : List Statement) (gs : List Gate) → Gates n left ss gs → map (gate_of n) (map row_of_gate gs) ≡ map (λ g. Some g) gs
gates_decode n left [] gs h = ap (λ l. map (gate_of n) (map row_of_gate l)) h ∙ ap (map (λ g. Some g)) (sym h)
gates_decode n left (s ∷ ss) [] h = absurd h
gates_decode n left (s ∷ ss) (g ∷ gs) h =
    let good = accepted_good n left s g h.0 h.1 in
    λ i. row_decodes n g good.fitting good.k i ∷ gates_decode n (left - 1) ss gs h.2 i

pub circuit_fits : (room : ℕ) (ss : List Statement) (n : ℕ) (gs : List Gate) → IsCircuit room ss n gs → length gs ≤ room
circuit_fits room [] n gs h = absurd h
circuit_fits room (s ∷ ss) n gs h = gates_fit n room ss gs h.1

pub circuit_decodes : (room : ℕ) (ss : List Statement) (n : ℕ) (gs : List Gate) → IsCircuit room ss n gs → map (gate_of n) (map row_of_gate gs) ≡ map (λ g. Some g) gs
circuit_decodes room [] n gs h = absurd h
circuit_decodes room (s ∷ ss) n gs h = gates_decode n room ss gs h.1
