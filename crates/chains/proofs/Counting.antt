-- Numbers that have a property, counted.
use Rattle.std.proofs.Common.{◌≡◌, ℕ, zero, suc, ◌<◌, ◌≤◌, Bool, true, false, List, length, get_or, take, sym, refl, ap, ◌∙◌, subst, inl, inr, ⊎_elim, add-one, arith}
use Rattle.std.specs.List.{range_with_len, count_by}
use Rattle.std.proofs.lemmas.Bool.{cases_Bool}
use Rattle.std.proofs.lemmas.List.{take_all}
use Rattle.std.proofs.lemmas.List.FromFn.{length-range_with_len, get_or-range_with_len}
use Rattle.std.proofs.lemmas.List.Sums.{count_by_more_yes, count_by_more_no}
use Rattle.chains.specs.Chained.{Counts}

module _ (P : ℕ → Type 0) (p : ℕ → Bool) (yes : (j : ℕ) → p j ≡ true → P j) (no : (j : ℕ) → p j ≡ false → ¬ P j) (n : ℕ) where
  abbrev below : List ℕ
  below = range_with_len 0 n

  at : (i : ℕ) → i < n → get_or below i 0 ≡ i
  at i h = get_or-range_with_len 0 n i 0 h ∙ omega arith

  front : (i : ℕ) → i ≤ n → Counts P i (count_by p (take i below))
  front zero h = refl
  front (suc i) h =
      let l : i < n = omega arith in
      let inside : i < length below = omega (arith, length-range_with_len 0 n) in
      let next = ap (λ (k : ℕ). count_by p (take k below)) (sym (add-one i)) in
      ⊎_elim
      (λ (e : p i ≡ true). inl (yes i e, (count_by p (take i below), front i (omega arith), next ∙ count_by_more_yes p below i 0 inside (ap p (at i l) ∙ e))))
      (λ (e : p i ≡ false). inr (no i e, subst (Counts P i) (sym (next ∙ count_by_more_no p below i 0 inside (ap p (at i l) ∙ e))) (front i (omega arith))))
      (cases_Bool (p i))

  -- a test of the property counts the numbers below n that have it
  pub counts_by : Counts P n (count_by p below)
  counts_by = subst (λ (l : List ℕ). Counts P n (count_by p l)) (take_all n below (omega (arith, length-range_with_len 0 n))) (front n (omega arith))
