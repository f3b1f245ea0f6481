-- The chart of the records, and the chip that holds it.
use Rattle.std.proofs.Common.{◌≡◌, ℕ, zero, suc, ◌<◌, ◌≤◌, Bool, true, false, ◌&&◌, ◌||◌, eqb, List, [], ◌∷◌, length, get_or, take, Some, None, Option, is_some, inl, inr, sym, refl, ap, ◌∙◌, subst, ⊎_elim, arith}
use Rattle.std.proofs.lemmas.List.{take_all, get_or_past}
use Rattle.std.proofs.lemmas.Bool.{cases_lt, or_cases, or_from, cases_Bool, both_ways, cond-true, cond-false, and_parts}
use Rattle.std.proofs.lemmas.Bool.Decides.{nat_tests}
use Rattle.rows.specs.declared.refusal.Refusal.{Refusal}
use Rattle.rows.specs.Refusals.{Accepted, Turned}
use Rattle.chip.specs.Charts.{Four, records, couples, joins_two, joins, lasts, amount, duration, chart, Walk, Distance, Even, ChipFits, Inside, Symmetric, Irreflexive}
use Rattle.rows.specs.declared.refusal.Fault.{Fault}
use Rattle.chip.specs.Tables.{flag_at, number_at, chart_at, links, given, Read, AllGiven, FirstMissing, IsFound, Distances, AllReached}
use Rattle.chip.proofs.Reading.{duration_outside, given_none, given_value}
use Rattle.chip.proofs.Reaching.{some_value, found_value}
use Rattle.chip.proofs.Refusing.{turned_9, turned_10, accepted}
use Rattle.chip.proofs.Walks.{back, onward, carried, distance_carried}

-- the couplings of records
two_inside : (n : ℕ) (r : Four) (a b : ℕ) → joins_two n r a b ≡ true → (a < n) × (b < n)
two_inside n r a b e = grind (arith, nat_tests)

joins_inside : (n : ℕ) (rs : List Four) (a b : ℕ) → joins n rs a b ≡ true → (a < n) × (b < n)
joins_inside n [] a b e = absurd (both_ways false refl e)
joins_inside n (r ∷ rs) a b e = ⊎_elim (two_inside n r a b) (joins_inside n rs a b) (or_cases (joins_two n r a b) (joins n rs a b) e)

or_comm : (x y : Bool) → (x || y) ≡ (y || x)
or_comm true true = refl
or_comm true false = refl
or_comm false true = refl
or_comm false false = refl

joins_symmetric : (n : ℕ) (rs : List Four) (a b : ℕ) → joins n rs a b ≡ joins n rs b a
joins_symmetric n [] a b = refl
joins_symmetric n (r ∷ rs) a b =
    ap (λ (t : Bool). (couples n r && t) || joins n rs a b) (or_comm (eqb r.second a && eqb r.third b) (eqb r.second b && eqb r.third a))
    ∙ ap (λ (t : Bool). joins_two n r b a || t) (joins_symmetric n rs a b)

two_irreflexive : (n : ℕ) (r : Four) (a : ℕ) → joins_two n r a a ≡ false
two_irreflexive n r a = grind (arith, nat_tests)

joins_irreflexive : (n : ℕ) (rs : List Four) (a : ℕ) → joins n rs a a ≡ false
joins_irreflexive n [] a = refl
joins_irreflexive n (r ∷ rs) a = or_from (joins_two n r a a) (joins n rs a a) (two_irreflexive n r a) (joins_irreflexive n rs a)

-- the durations of records
lasts_most : (r : Four) → lasts r ≡ true → amount r ≤ 4095
lasts_most r e = grind (arith, nat_tests)

duration_most : (rs : List Four) (k : ℕ) → duration rs k ≤ 4095
duration_most [] k = omega arith
duration_most (r ∷ rs) k = ⊎_elim
    (λ (t : (lasts r && eqb r.second k) ≡ true).
    let e : duration (r ∷ rs) k ≡ amount r = cond-true {A = ℕ} (lasts r && eqb r.second k) (amount r) (duration rs k) t in
    omega (arith, lasts_most r (and_parts (lasts r) (eqb r.second k) t).0))
    (λ (t : (lasts r && eqb r.second k) ≡ false).
    let e : duration (r ∷ rs) k ≡ duration rs k = cond-false {A = ℕ} (lasts r && eqb r.second k) (amount r) (duration rs k) t in
    omega (arith, duration_most rs k))
    (cases_Bool (lasts r && eqb r.second k))

pub first_missing : (ds : List (Option ℕ)) (cycles : List ℕ) (k : ℕ) (f : Fault) → 1 ≤ k → k ≤ 12
    → ((q : ℕ) → 1 ≤ q → q < k → get_or ds q None ≡ Some (get_or cycles q 0)) → get_or ds k None ≡ None
    → f ≡ record { refusal = Refusal.NoDuration; place = k } → FirstMissing ds f
first_missing ds cycles k f l m before none e = subst (FirstMissing ds) (sym e) (record {
  refusal = refl;
  low = l;
  high = m;
  none = none;
  before = λ q p o. ap (λ (x : Option ℕ). is_some x) (before q p o);
})

-- the tables of all records
module _ (n : ℕ) (bs : List ℕ) (cs : List (List Bool)) (ds : List (Option ℕ)) (all : Read n bs (length (records bs)) cs ds) where
  whole : take (length (records bs)) (records bs) ≡ records bs
  whole = take_all (length (records bs)) (records bs) (omega arith)

  flags : (a b : ℕ) → flag_at cs a b ≡ joins n (records bs) a b
  flags a b = all.coupled a b ∙ ap (λ (rs : List Four). joins n rs a b) whole

  lasting : (k : ℕ) → get_or ds k None ≡ given (duration (records bs) k)
  lasting k = all.lasting k ∙ ap (λ (rs : List Four). given (duration rs k)) whole

  pub chart_inside : (cycles : List ℕ) → Inside (chart_at n cs cycles)
  chart_inside cycles a b h = joins_inside n (records bs) a b (sym (flags a b) ∙ h)

  pub chart_symmetric : (cycles : List ℕ) → Symmetric (chart_at n cs cycles)
  chart_symmetric cycles a b = flags a b ∙ joins_symmetric n (records bs) a b ∙ sym (flags b a)

  pub chart_irreflexive : (cycles : List ℕ) → Irreflexive (chart_at n cs cycles)
  chart_irreflexive cycles a = flags a a ∙ joins_irreflexive n (records bs) a

  pub links_inside : n ≤ 64 → Inside (links cs)
  links_inside l a b h = let i = chart_inside [] a b h in (omega (arith, i.0), omega (arith, i.1))

  module _ (even : Even n bs) where
    -- a kind without a duration
    pub made_9 : (f : Fault) → FirstMissing ds f → Turned (ChipFits n bs) f
    made_9 f m = subst (Turned (ChipFits n bs)) (λ i. record { refusal = sym m.refusal i; place = f.place })
        (turned_9 n bs even all.good f.place m.low m.high (given_none _ (sym (lasting f.place) ∙ m.none))
        (λ q p o. let v = some_value (get_or ds q None) (m.before q p o) in
        let e = given_value (duration (records bs) q) v.0 (sym (lasting q) ∙ v.1) in
        let z : duration (records bs) q ≡ 0 → ⊥ = λ z. given_zero (get_or ds q None) (lasting q ∙ ap given z) (m.before q p o) in omega (arith, z)))
      where
        given_zero : (o : Option ℕ) → o ≡ None → is_some o ≡ true → ⊥
        given_zero o e s = both_ways (is_some o) (ap (λ (x : Option ℕ). is_some x) e) s

    module _ (cycles : List ℕ) (given_all : AllGiven ds cycles) where
      times : (k : ℕ) → get_or cycles k 0 ≡ duration (records bs) k
      times k = ⊎_elim
          (λ (l : k < 1).
          let e : k ≡ 0 = omega arith in
          ap (λ (x : ℕ). get_or cycles x 0) e ∙ given_all.none ∙ sym (duration_outside (records bs) k (inl l)))
          (λ (l : 1 ≤ k). ⊎_elim
          (λ (m : 12 < k). get_or_past cycles k 0 (omega (arith, given_all.long)) ∙ sym (duration_outside (records bs) k (inr m)))
          (λ (m : k ≤ 12). given_value (duration (records bs) k) (get_or cycles k 0) (sym (lasting k) ∙ given_all.same k l m))
          (cases_lt 12 k))
          (cases_lt k 1)

      pub chart_is : chart_at n cs cycles ≡ chart n bs
      chart_is = λ i. record { wires = n; coupled = λ a b. flags a b i; cycles = λ k. times k i }

      timed' : (k : ℕ) → 1 ≤ k → k ≤ 12 → 1 ≤ (chart n bs).cycles k
      timed' k l m = some_given (duration (records bs) k) (get_or cycles k 0) (sym (lasting k) ∙ given_all.same k l m)
        where
          some_given : (d j : ℕ) → given d ≡ Some j → 1 ≤ d
          some_given zero j e = cc
          some_given (suc d) j e = omega arith

      pub made_timed : (k : ℕ) → (1 ≤ k) × (k ≤ 12) → (1 ≤ get_or cycles k 0) × (get_or cycles k 0 ≤ 4095)
      made_timed k p = (omega (arith, times k, timed' k p.0 p.1), omega (arith, times k, duration_most (records bs) k))

      module _ (steps : List (Option ℕ)) (reach : AllReached cs 0 steps) where
        outward : (v : ℕ) → IsFound steps v → (d : ℕ) × Walk (chart n bs) d 0 v
        outward v h =
            let p = found_value steps v h in
            (p.0, carried (links cs) (chart n bs) (λ x y e. sym (flags x y) ∙ e) p.0 0 v (reach.fewest v p.0 p.1).0.walk)

        pub made_10 : (w : ℕ) → w < n → get_or steps w None ≡ None → ((v : ℕ) → v < w → IsFound steps v)
            → Turned (ChipFits n bs) (record { refusal = Refusal.Parted; place = w })
        made_10 w l e h = turned_10 n bs even all.good timed' w l
            (λ d x. both_ways (is_some (get_or steps w None)) (ap (λ (o : Option ℕ). is_some o) e)
            (reach.all w d (carried (chart n bs) (links cs) (λ a b p. flags a b ∙ p) d 0 w x)))
            (λ v p. outward v (h v p))

        module _ (every : (w : ℕ) → w < n → IsFound steps w) where
          pub made_accepted : Accepted (ChipFits n bs)
          made_accepted = accepted n bs even all.good timed' (λ v l. outward v (every v l))

          between : (a b : ℕ) → a < n → b < n → (k : ℕ) × Walk (links cs) k a b
          between a b la lb =
              let p = found_value steps a (every a la) in
              let q = found_value steps b (every b lb) in
              onward (links cs) p.0 q.0 a 0 b (back (links cs) (chart_symmetric []) p.0 0 a (reach.fewest a p.0 p.1).0.walk) (reach.fewest b q.0 q.1).0.walk

          module _ (rows : List (List ℕ)) (right : (a : ℕ) → a < n → Distances cs a (get_or rows a [])) where
            pub made_distant : (a b : ℕ) → (a < n) × (b < n) → ∥ Distance (chart_at n cs cycles) a b (number_at rows a b) ∥₁
            made_distant a b p =
                let w = between a b p.0 p.1 in
                ∣ distance_carried (links cs) (chart_at n cs cycles) (λ x y. refl) a b (number_at rows a b) (right a p.0 b w.0 w.1).0 ∣₁

            pub made_near : (a b : ℕ) → (a < n) × (b < n) → number_at rows a b < 64
            made_near a b p = let w = between a b p.0 p.1 in (right a p.0 b w.0 w.1).1
