-- Breadth first: what is found, a round, and the end.
use Rattle.std.proofs.Common.{◌≡◌, ℕ, zero, suc, ◌+◌, ◌<◌, ◌≤◌, Bool, true, false, cond, List, length, get_or, set, replicate, Some, None, Option, is_some, sym, refl, ap, ◌∙◌, subst, ⊎_elim, arith}
use Rattle.std.proofs.lemmas.List.{get_or-set_same, get_or-set_other, get_or_past}
use Rattle.std.proofs.lemmas.List.Sums.{sum_by-set}
use Rattle.std.proofs.lemmas.Bool.{cases_eq, cases_lt, both_ways}
use Rattle.chip.specs.Charts.{Walk, Distance, Inside}
use Rattle.chip.specs.Tables.{flag_at, links, Found, IsFound, size, Level, Grown, AllReached, Distances}
use Rattle.chip.proofs.Walks.{snoc, unsnoc, moved}

abbrev tally : Option ℕ → ℕ
tally o = cond (is_some o) 1 0

-- what an entry has
pub some_value : (o : Option ℕ) → is_some o ≡ true → (k : ℕ) × (o ≡ Some k)
some_value (Some k) e = (k, refl)
some_value None e = absurd (both_ways false refl e)

pub none_value : (o : Option ℕ) → is_some o ≡ false → o ≡ None
none_value (Some k) e = absurd (both_ways true e refl)
none_value None e = refl

pub found_value : (steps : List (Option ℕ)) (v : ℕ) → IsFound steps v → (k : ℕ) × Found steps v k
found_value steps v h = some_value (get_or steps v None) h

pub is_found : (steps : List (Option ℕ)) (v k : ℕ) → Found steps v k → IsFound steps v
is_found steps v k h = ap (λ (o : Option ℕ). is_some o) h

pub found_below : (steps : List (Option ℕ)) (v k : ℕ) → Found steps v k → v < length steps
found_below steps v k h = ⊎_elim
    (λ (l : v < length steps). l)
    (λ (l : length steps ≤ v). absurd (both_ways false refl (sym (ap (λ (o : Option ℕ). is_some o) (get_or_past steps v None l)) ∙ is_found steps v k h)))
    (cases_lt v (length steps))

found_same : (steps : List (Option ℕ)) (v j k : ℕ) → Found steps v j → Found steps v k → j ≡ k
found_same steps v j k p q = cc

-- a whole round
module _ (t : List (List Bool)) (inside : Inside (links t)) (a d : ℕ) (steps : List (Option ℕ)) (level : Level t a d steps)
    (steps' : List (Option ℕ)) (g : Grown t d steps steps')
    (covered : (u v : ℕ) → u < 64 → v < 64 → Found steps u d → flag_at t u v ≡ true → IsFound steps' v) where
  -- a wire coupled with a found one is found now
  next_found : (u v k : ℕ) → Found steps u k → flag_at t u v ≡ true → IsFound steps' v
  next_found u v k p j =
      let i = inside u v j in
      ⊎_elim
      (λ (l : k < d).
      let w : Walk (links t) (suc k) a v = snoc (links t) k a u v (level.reached u k p) j in
      let c = level.complete v (suc k) (omega arith) w in
      is_found steps' v c.0 (g.kept v c.0 c.1))
      (λ (l : d ≤ k).
      let m : k ≤ d = level.within u k p in
      let e : k ≡ d = omega arith in
      covered u v i.0 i.1 (subst (λ (x : ℕ). Found steps u x) e p) j)
      (cases_lt k d)

  within' : (v k : ℕ) → Found steps' v k → k ≤ d + 1
  within' v k p = ⊎_elim
      (λ (q : Found steps v k). omega (arith, level.within v k q))
      (λ (q : (k ≡ d + 1) × ((w : ℕ) × Found steps w d × (flag_at t w v ≡ true))). omega (arith, q.0))
      (g.fresh v k p)

  reached' : (v k : ℕ) → Found steps' v k → Walk (links t) k a v
  reached' v k p = ⊎_elim
      (λ (q : Found steps v k). level.reached v k q)
      (λ (q : (k ≡ d + 1) × ((w : ℕ) × Found steps w d × (flag_at t w v ≡ true))).
      let w = snoc (links t) d a q.1.0 v (level.reached q.1.0 d q.1.1) q.1.2 in
      let e : suc d ≡ k = omega (arith, q.0) in
      moved (links t) a v e w)
      (g.fresh v k p)

  -- a walk of one coupling more
  longer : (v : ℕ) → Walk (links t) (suc d) a v → IsFound steps' v
  longer v w =
      let r = unsnoc (links t) d a v w in
      let c = level.complete r.0 d (omega arith) r.1 in
      next_found r.0 v c.0 c.1 r.2

  pub next_level : Level t a (d + 1) steps'
  next_level = record {
    reached = reached';
    within = within';
    complete = λ v k l w. ⊎_elim
        (λ (s : k < d + 1).
        let q = level.complete v k (omega arith) w in
        (q.0, g.kept v q.0 q.1, q.2))
        (λ (s : d + 1 ≤ k).
        let e : k ≡ suc d = omega arith in
        let p = found_value steps' v (longer v (moved (links t) a v e w)) in
        (p.0, p.1, omega (arith, within' v p.0 p.1)))
        (cases_lt k (d + 1));
  }

  -- a round that found nothing is the last
  module _ (same : steps' ≡ steps) (few : d < 64) where
    closed : (k u v : ℕ) → IsFound steps u → Walk (links t) k u v → IsFound steps v
    closed zero u v p e = subst (λ (x : ℕ). IsFound steps x) e p
    closed (suc k) u v p (m, j, w) =
        let q = found_value steps u p in
        closed k m v (subst (λ (xs : List (Option ℕ)). IsFound xs m) same (next_found u m q.0 q.1 j)) w

    all_found : (v k : ℕ) → Walk (links t) k a v → IsFound steps v
    all_found v k w =
        let c = level.complete a 0 (omega arith) refl in
        closed k a v (is_found steps a c.0 c.1) w

    fewest : (v k n : ℕ) → Found steps v k → Walk (links t) n a v → k ≤ n
    fewest v k n p w = ⊎_elim
        (λ (l : n < d).
        let c = level.complete v n (omega arith) w in
        let e = found_same steps v k c.0 p c.1 in omega (arith, c.2))
        (λ (l : d ≤ n). omega (arith, level.within v k p))
        (cases_lt n d)

    before : (v k : ℕ) → Found steps' v k → Found steps v k
    before v k p = subst (λ (xs : List (Option ℕ)). Found xs v k) same p

    pub level_all_reached : AllReached t a steps'
    level_all_reached = record {
      fewest = λ v k p.
          let q = before v k p in (
            record { walk = level.reached v k q; shortest = λ n w. fewest v k n q w },
            omega (arith, level.within v k q),
          );
      all = λ v k w. subst (λ (xs : List (Option ℕ)). IsFound xs v) (sym same) (all_found v k w);
    }

-- a list of one value
pub blank_row : {A : Type 0} (n k : ℕ) (x : A) → get_or (replicate n x) k x ≡ x
blank_row zero k x = refl
blank_row (suc n) zero x = refl
blank_row (suc n) (suc k) x = blank_row n k x

-- the first level: the wire itself
module _ (t : List (List Bool)) (a : ℕ) (blank : List (Option ℕ)) (lt : a < length blank) (none : (v : ℕ) → get_or blank v None ≡ None) where
  none_found : (v k : ℕ) → Found blank v k → ⊥
  none_found v k h = both_ways false refl (sym (ap (λ (o : Option ℕ). is_some o) (none v)) ∙ is_found blank v k h)

  first_found : Found (set blank a (Some 0)) a 0
  first_found = get_or-set_same blank a (Some 0) None lt

  itself : (v k : ℕ) → Found (set blank a (Some 0)) v k → (v ≡ a) × (k ≡ 0)
  itself v k h = ⊎_elim
      (λ (e : v ≡ a). (e, found_same (set blank a (Some 0)) a k 0 (subst (λ (x : ℕ). Found (set blank a (Some 0)) x k) e h) first_found))
      (λ ne. absurd (none_found v k (sym (get_or-set_other blank a v (Some 0) None ne) ∙ h)))
      (cases_eq v a)

  pub first_level : Level t a 0 (set blank a (Some 0))
  first_level = record {
    reached = λ v k h. let i = itself v k h in moved (links t) a v (sym i.1) (sym i.0);
    within = λ v k h. omega (arith, (itself v k h).1);
    complete = λ v k l w.
        let e : k ≡ 0 = omega arith in
        let p : a ≡ v = moved (links t) a v e w in
        (0, subst (λ (x : ℕ). Found (set blank a (Some 0)) x 0) p first_found, omega arith);
  }

  pub first_size : 0 < size (set blank a (Some 0))
  first_size =
      let s : size (set blank a (Some 0)) + tally (get_or blank a None) ≡ size blank + 1 = sum_by-set tally blank a (Some 0) None lt in
      let z : tally (get_or blank a None) ≡ 0 = ap tally (none a) in
      omega arith

-- a row of the numbers of all that is reached
pub row_distances : (t : List (List Bool)) (a : ℕ) (steps : List (Option ℕ)) (row : List ℕ) → AllReached t a steps
    → ((v d : ℕ) → Found steps v d → get_or row v 0 ≡ d) → Distances t a row
row_distances t a steps row all same v k w =
    let p = found_value steps v (all.all v k w) in
    let e = same v p.0 p.1 in
    let f = all.fewest v p.0 p.1 in
    (subst (λ (x : ℕ). Distance (links t) a v x) (sym e) f.0, omega (arith, f.1))
