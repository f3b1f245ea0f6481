-- Walks: one coupling more at the end, turned round, joined, and carried to another chart.
use Rattle.std.proofs.Common.{◌≡◌, ℕ, zero, suc, true, sym, refl, ◌∙◌, subst}
use Rattle.chip.specs.Charts.{Chart, Walk, Distance, Symmetric}

module _ (c : Chart) where
  -- one coupling more at the end
  pub snoc : (n a b w : ℕ) → Walk c n a b → c.coupled b w ≡ true → Walk c (suc n) a w
  snoc zero a b w e j = (w, subst (λ (x : ℕ). c.coupled x w ≡ true) (sym e) j, refl)
  snoc (suc n) a b w (m, i, v) j = (m, i, snoc n m b w v j)

  -- the last coupling of a walk
  pub unsnoc : (n a w : ℕ) → Walk c (suc n) a w → (b : ℕ) × Walk c n a b × (c.coupled b w ≡ true)
  unsnoc zero a w (m, i, e) = (a, refl, subst (λ (x : ℕ). c.coupled a x ≡ true) e i)
  unsnoc (suc n) a w (m, i, v) = let r = unsnoc n m w v in (r.0, (m, i, r.1), r.2)

  pub back : Symmetric c → (n a b : ℕ) → Walk c n a b → Walk c n b a
  back s zero a b e = sym e
  back s (suc n) a b (m, i, v) = snoc n b m a (back s n m b v) (sym (s a m) ∙ i)

  pub onward : (n k a b d : ℕ) → Walk c n a b → Walk c k b d → (j : ℕ) × Walk c j a d
  onward zero k a b d e w = (k, subst (λ (x : ℕ). Walk c k x d) (sym e) w)
  onward (suc n) k a b d (m, i, v) w = let r = onward n k m b d v w in (suc r.0, (m, i, r.1))

  -- a walk by another name of its length
  pub moved : {n k : ℕ} (a b : ℕ) → n ≡ k → Walk c n a b → Walk c k a b
  moved a b e w = subst (λ (x : ℕ). Walk c x a b) e w

-- a walk of one chart is a walk of another that has its couplings
module _ (c e : Chart) (f : (x y : ℕ) → c.coupled x y ≡ true → e.coupled x y ≡ true) where
  pub carried : (n a b : ℕ) → Walk c n a b → Walk e n a b
  carried zero a b p = p
  carried (suc n) a b (m, i, v) = (m, f a m i, carried n m b v)

-- a distance of one chart is a distance of another with the same couplings
pub distance_carried : (c e : Chart) → ((x y : ℕ) → c.coupled x y ≡ e.coupled x y) → (a b d : ℕ) → Distance c a b d → Distance e a b d
distance_carried c e p a b d r = record {
  walk = carried c e (λ x y h. sym (p x y) ∙ h) d a b r.walk;
  shortest = λ n w. r.shortest n (carried e c (λ x y h. p x y ∙ h) n a b w);
}
