-- An array that is made by a function of the index.
use Rattle.std.proofs.Common.{◌≡◌, ℕ, zero, suc, ◌+◌, ◌<◌, ◌≤◌, List, get_or, sym, subst, ⊎_elim, arith}
use Rattle.std.proofs.lemmas.Bool.{cases_lt}
use Rattle.std.specs.Array.{IsFromFnResultFrom, IsFromFnResult}
use Rattle.std.specs.Fn.{Called}
use denote.Param.Members.{Mut}

-- what each call of an unchanged closure gives holds of the element at its index
module _ {F B : Type 0} (g : Mut F (ℕ × Unit {0}) B) (f : F) (P : ℕ → B → Type 0) (each : (i : ℕ) (y : B) (q : F) → Called g f (i, tt) y q → (q ≡ f) × P i y) where
  filled_from : (ys : List B) (i n : ℕ) → IsFromFnResultFrom g f ys i n → (k : ℕ) (d : B) → i ≤ k → k < i + n → P k (get_or ys k d)
  filled_from ys i zero h k d l m = let z : ⊥ = omega arith in absurd z
  filled_from ys i (suc n) (q, y, e, c, r) k d l m = ⊎_elim
      (λ (lt : i < k). filled_from ys (i + 1) n (subst (λ (p : F). IsFromFnResultFrom g p ys (i + 1) n) (each i y q c).0 r) k d (omega arith) (omega arith))
      (λ (le : k ≤ i).
      let same : i ≡ k = omega arith in
      let here : P i (get_or ys i d) = subst (P i) (sym (e.1 d)) (each i y q c).1 in
      subst (λ (j : ℕ). P j (get_or ys j d)) same here)
      (cases_lt i k)

  pub filled : (ys : List B) (n : ℕ) → IsFromFnResult g f ys n → (k : ℕ) (d : B) → k < n → P k (get_or ys k d)
  filled ys n h k d l = filled_from ys 0 n h.each k d (omega arith) (omega arith)
