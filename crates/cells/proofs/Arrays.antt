-- An array made by a closure that leaves its captures as they were.
use Rattle.std.proofs.Common.{◌≡◌, ℕ, zero, suc, ◌+◌, ◌<◌, ◌≤◌, ◌≢◌, List, get_or, refl, subst, sym, ⊎_elim, arith}
use Rattle.std.proofs.lemmas.Bool.{cases_eq}
use Rattle.std.specs.Array.{IsFromFnResult, IsFromFnResultFrom}
use denote.Param.Members.{Mut, Called}

module _ {F B : Type 0} (g : Mut F (ℕ × Unit {0}) B) (f : F) (R : ℕ → B → Type 0) (each : (p q : F) (i : ℕ) (y : B) → p ≡ f → Called g p (i, tt) y q → R i y × (q ≡ f)) where
  from : (ys : List B) (d : B) (n i : ℕ) (p : F) → p ≡ f → IsFromFnResultFrom g p ys i n → (w : ℕ) → i ≤ w → w < i + n → R w (get_or ys w d)
  from ys d zero i p e h w low high = absurd (omega arith)
  from ys d (suc n) i p e h w low high =
      let now = each p h.0 i h.1 e h.3 in
      ⊎_elim
      (λ (s : w ≡ i). subst (λ (k : ℕ). R k (get_or ys k d)) (sym s) (subst (R i) (sym (h.2.1 d)) now.0))
      (λ (s : w ≢ i). from ys d n (i + 1) h.0 now.1 h.4 w (omega arith) (omega arith))
      (cases_eq w i)

  -- what each call gives holds of each element
  pub made_each : (ys : List B) (n : ℕ) → IsFromFnResult g f ys n → (w : ℕ) (d : B) → w < n → R w (get_or ys w d)
  made_each ys n h w d l = from ys d n 0 f refl h.each w (omega arith) (omega arith)
