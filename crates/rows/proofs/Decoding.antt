-- The row of a gate, or of a step, decodes to it again.
use Rattle.std.proofs.Common.{◌≡◌, ℕ, Bool, true, false, cond, not, ◌&&◌, ◌||◌, eqb, ltb, Some, rules, arith, ap, ◌∙◌}
use Rattle.std.proofs.lemmas.Bool.{not-true}
use Rattle.std.proofs.lemmas.Bool.Decides.{nat_tests}
use Rattle.rows.specs.declared.kind.Kind.{Kind}
use Rattle.rows.specs.Kinds.{code, coded, double, k_suits}
use Rattle.rows.specs.Steps.{Gate, one, two, gate, swap, kind_of, k_of, pair_below, fits, when, formed, gate_of, as_step, step_of, row_of_gate, written}

coded_code : (κ : Kind) → coded (code κ) ≡ Some κ
coded_code κ = search rules

-- no gate's code is that of the exchange
not_swap : (κ : Kind) → eqb (code κ) 12 ≡ false
not_swap κ = search rules

-- the first part of a conjunction that holds
first_part : (a b : Bool) → (a && b) ≡ true → a ≡ true
first_part a b h = grind (arith, nat_tests)

formed_one : (n : ℕ) (κ : Kind) (k a : ℕ) → fits n (one κ k a) ≡ true → k_suits κ k ≡ true → formed n (coded (code κ)) a 0 k ≡ Some (one κ k a)
formed_one n κ k a fit suits =
    let single : double κ ≡ false = not-true (double κ) (first_part (not (double κ)) (ltb a n) fit) in
    ap (λ o. formed n o a 0 k) (coded_code κ)
    ∙ (λ i. when ((single i || eqb 0 0) && (suits i && fits n (cond (single i) (two κ k a 0) (one κ k a)))) (cond (single i) (two κ k a 0) (one κ k a)))
    ∙ ap (λ b. when b (one κ k a)) fit

formed_two : (n : ℕ) (κ : Kind) (k a b : ℕ) → fits n (two κ k a b) ≡ true → k_suits κ k ≡ true → formed n (coded (code κ)) a b k ≡ Some (two κ k a b)
formed_two n κ k a b fit suits =
    let pair : double κ ≡ true = first_part (double κ) (pair_below n a b) fit in
    ap (λ o. formed n o a b k) (coded_code κ)
    ∙ (λ i. when ((pair i || eqb b 0) && (suits i && fits n (cond (pair i) (two κ k a b) (one κ k a)))) (cond (pair i) (two κ k a b) (one κ k a)))
    ∙ ap (λ b'. when b' (two κ k a b)) fit

pub row_decodes : (n : ℕ) (g : Gate) → fits n g ≡ true → k_suits (kind_of g) (k_of g) ≡ true → gate_of n (row_of_gate g) ≡ Some g
row_decodes n (one κ k a) fit suits = formed_one n κ k a fit suits
row_decodes n (two κ k a b) fit suits = formed_two n κ k a b fit suits

pub gate_step_decodes : (n : ℕ) (g : Gate) (start : ℕ) → fits n g ≡ true → k_suits (kind_of g) (k_of g) ≡ true → step_of n (written (gate g) start) ≡ Some (gate g)
gate_step_decodes n (one κ k a) start fit suits =
    ap (λ t. cond t (when (eqb k 0 && pair_below n a 0) (swap a 0)) (as_step (formed n (coded (code κ)) a 0 k))) (not_swap κ) ∙ ap as_step (formed_one n κ k a fit suits)
gate_step_decodes n (two κ k a b) start fit suits =
    ap (λ t. cond t (when (eqb k 0 && pair_below n a b) (swap a b)) (as_step (formed n (coded (code κ)) a b k))) (not_swap κ) ∙ ap as_step (formed_two n κ k a b fit suits)

pub swap_decodes : (n a b start : ℕ) → pair_below n a b ≡ true → step_of n (written (swap a b) start) ≡ Some (swap a b)
swap_decodes n a b start h = ap (λ t. when t (swap a b)) h
