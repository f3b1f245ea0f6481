-- Distances on a chip: below the number of wires, and a lowest neighbour one nearer.
use Rattle.std.proofs.Common.{◌≡◌, ℕ, zero, suc, ◌+◌, ◌<◌, ◌≤◌, true, subst, inl, inr, ⊎_elim, le_of_suc-le-suc, add-one, arith}
use Rattle.std.proofs.lemmas.Bool.{cases_eq}
use Rattle.chip.specs.Charts.{Chart, Distance, OneNearer, Lowest, GoodChart}
use Rattle.chip.proofs.Chips.{distance_same}
use Rattle.routing.proofs.Deciding.{Decided, bool_is, least, at_most}

-- different wires are one coupling apart at least, and only they
pub apart_differ : (c : Chart) (x y d : ℕ) → 1 ≤ d → Distance c x y d → ¬ (x ≡ y)
apart_differ c x y d h r e = let k : d ≤ 0 = r.shortest 0 e in omega arith

pub differ_apart : (c : Chart) (x y d : ℕ) → Distance c x y d → ¬ (x ≡ y) → 1 ≤ d
differ_apart c x y zero r n = absurd (n r.walk)
differ_apart c x y (suc d) r n = omega arith

-- those that are not coupled, two at least
pub two_apart : (c : Chart) (x y d : ℕ) → ¬ (x ≡ y) → ¬ (c.coupled x y ≡ true) → Distance c x y d → 2 ≤ d
two_apart c x y zero n u r = absurd (n r.walk)
two_apart c x y (suc zero) n u r = absurd (u (subst (λ v. c.coupled x v ≡ true) r.walk.2 r.walk.1))
two_apart c x y (suc (suc d)) n u r = omega arith

-- the first wire of a shortest walk is a neighbour one nearer
pub one_nearer : (c : Chart) (x y d : ℕ) → Distance c x y (suc d) → (v : ℕ) × (c.coupled x v ≡ true) × Distance c v y d
one_nearer c x y d r = (
  r.walk.0,
  r.walk.1,
  record {
    walk = r.walk.2;
    shortest = λ n w. le_of_suc-le-suc (r.shortest (suc n) (r.walk.0, r.walk.1, w));
  },
)

module _ (c : Chart) (chip : GoodChart c) where
  pub nearer_decided : (x y d w : ℕ) → y < c.wires → Distance c x y (suc d) → Decided (OneNearer c x y w)
  nearer_decided x y d w h r = go (bool_is (c.coupled x w) true)
    where
      go : Decided (c.coupled x w ≡ true) → Decided (OneNearer c x y w)
      go (inr f) = inr (λ n. f n.neighbour)
      go (inl e) = let (k, _, s) = chip.connected w y (chip.inside x w e).1 h in ⊎_elim
          (λ (q : k ≡ d). inl (record { neighbour = e; left = d; there = subst (Distance c w y) q s; here = rw add-one r }))
          (λ q. inr (λ n. let a = distance_same c w y k n.left s n.there in let b = distance_same c x y (suc d) (n.left + 1) r n.here in q (omega arith)))
          (cases_eq k d)

  -- two different wires have a lowest neighbour one nearer
  pub nearest : (x y d : ℕ) → y < c.wires → Distance c x y (suc d) → (w : ℕ) × Lowest (OneNearer c x y) w
  nearest x y d h r =
      let (v, e, s) = one_nearer c x y d r in
      let (w, _, m) = least (OneNearer c x y) (λ w. nearer_decided x y d w h r) v (record { neighbour = e; left = d; there = s; here = rw add-one r }) in (w, m)

  -- a wire at each distance from b up to that of a
  along : (d a b : ℕ) → Distance c a b d → a < c.wires → (i : ℕ) → (v : ℕ) × (i ≤ d → (v < c.wires) × Distance c v b i)
  along zero a b r h i = (a, λ k. let e : 0 ≡ i = omega arith in (h, subst (Distance c a b) e r))
  along (suc d) a b r h i = go (cases_eq (suc d) i) (along d (one_nearer c a b d r).0 b (one_nearer c a b d r).2 (chip.inside a _ (one_nearer c a b d r).1).1 i)
    where
      go : Decided (suc d ≡ i) → (v : ℕ) × (i ≤ d → (v < c.wires) × Distance c v b i) → (v : ℕ) × (i ≤ suc d → (v < c.wires) × Distance c v b i)
      go (inl e) w = (a, λ k. (h, subst (Distance c a b) e r))
      go (inr n) w = (w.0, λ k. w.1 (omega arith))

  pub distance_below : (a b d : ℕ) → a < c.wires → Distance c a b d → d < c.wires
  distance_below a b d h r = at_most c.wires (suc d) (λ i. (along d a b r h i).0) (λ i k. ((along d a b r h i).1 (omega arith)).0) apart
    where
      apart : (i j : ℕ) → i < suc d → j < suc d → (along d a b r h i).0 ≡ (along d a b r h j).0 → i ≡ j
      apart i j k m e = distance_same c (along d a b r h j).0 b i j
          (subst (λ v. Distance c v b i) e ((along d a b r h i).1 (omega arith)).1) ((along d a b r h j).1 (omega arith)).1
