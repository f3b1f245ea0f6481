-- The chips that are worked by hand.
use Rattle.std.proofs.Common.{◌≡◌, ℕ, zero, suc, ◌+◌, ◌-◌, ◌<◌, ◌≤◌, Bool, true, ◌&&◌, ◌||◌, eqb, leb, List, length, take, sym, refl, subst, inl, inr, ⊎_elim, arith}
use Rattle.std.proofs.lemmas.Bool.{and_parts, or_cases, cases_lt, cases_eq, eqb-true, leb-true, both_ways}
use Rattle.std.proofs.lemmas.Bool.Decides.{nat_tests}
use Rattle.rows.specs.declared.refusal.Refusal.{Refusal}
use Rattle.rows.specs.Refusals.{Turned}
use Rattle.chip.specs.Charts.{records, couples, lasts, duration, record_number, GoodRecord, chart, Walk, ChipFits}
use Rattle.chip.specs.Worked.{pair_records, square_records, WorkedChips}
use Rattle.chip.proofs.Refusing.{turned_10, accepted}

-- a test of each number below m
abbrev allb : ℕ → (ℕ → Bool) → Bool
allb zero t = true
allb (suc m) t = t m && allb m t

all_below : (m : ℕ) (t : ℕ → Bool) → allb m t ≡ true → (i : ℕ) → i < m → t i ≡ true
all_below zero t e i h = let f : ⊥ = omega arith in absurd f
all_below (suc m) t e i h =
    let p = and_parts (t m) (allb m t) e in
    ⊎_elim
    (λ (l : i < m). all_below m t p.1 i l)
    (λ (g : m ≤ i). let q : i ≡ m = omega arith in subst (λ (v : ℕ). t v ≡ true) (sym q) p.0)
    (cases_lt i m)

module _ (n : ℕ) (bs : List ℕ) where
  abbrev good_test : ℕ → Bool
  good_test i = couples n (record_number bs i) || (lasts (record_number bs i) && eqb (duration (take i (records bs)) (record_number bs i).second) 0)

  tested_good : allb (length (records bs)) good_test ≡ true → (i : ℕ) → i < length (records bs) → GoodRecord n bs i
  tested_good e i l = ⊎_elim
      (λ (c : couples n (record_number bs i) ≡ true). inl c)
      (λ d. let p = and_parts (lasts (record_number bs i)) (eqb (duration (take i (records bs)) (record_number bs i).second) 0) d in inr (p.0, eqb-true _ _ p.1))
      (or_cases (couples n (record_number bs i)) (lasts (record_number bs i) && eqb (duration (take i (records bs)) (record_number bs i).second) 0) (all_below (length (records bs)) good_test e i l))

  tested_timed : allb 12 (λ k. leb 1 (duration (records bs) (k + 1))) ≡ true → (k : ℕ) → 1 ≤ k → k ≤ 12 → 1 ≤ (chart n bs).cycles k
  tested_timed e k l m =
      let t : 1 ≤ duration (records bs) (k - 1 + 1) = leb-true _ _ (all_below 12 (λ j. leb 1 (duration (records bs) (j + 1))) e (k - 1) (omega arith)) in
      let f : k - 1 + 1 ≡ k = omega arith in
      subst (λ (j : ℕ). 1 ≤ duration (records bs) j) f t

-- the couplings of the three wires stay below 2
confined : (a b : ℕ) → (chart 3 pair_records).coupled a b ≡ true → b < 2
confined a b h = grind (arith, nat_tests)

stays : (d a b : ℕ) → a < 2 → Walk (chart 3 pair_records) d a b → b < 2
stays zero a b l e = omega arith
stays (suc d) a b l (m, j, w) = stays d m b (confined a m j) w

three : Turned (ChipFits 3 pair_records) (record { refusal = Refusal.Parted; place = 2 })
three = turned_10 3 pair_records (record { some_wire = omega arith; not_many = omega arith; whole = refl })
    (tested_good 3 pair_records refl) (tested_timed 3 pair_records refl) 2 (omega arith)
    (λ d w. let s = stays d 0 2 (omega arith) w in omega arith)
    (λ v l. ⊎_elim
    (λ (e : v ≡ 0). (0, sym e))
    (λ ne. (1, (1, refl, let e : 1 ≡ v = omega arith in e)))
    (cases_eq v 0))

square_walks : (v : ℕ) → v < 4 → (d : ℕ) × Walk (chart 4 square_records) d 0 v
square_walks v l = ⊎_elim
    (λ (e : v ≡ 0). (0, sym e))
    (λ not_0. ⊎_elim
    (λ (e : v ≡ 1). (1, (1, refl, sym e)))
    (λ not_1. ⊎_elim
    (λ (e : v ≡ 2). (1, (2, refl, sym e)))
    (λ not_2. (2, (1, refl, (3, refl, let e : 3 ≡ v = omega arith in e))))
    (cases_eq v 2))
    (cases_eq v 1))
    (cases_eq v 0)

opposite_far : (n : ℕ) → Walk (chart 4 square_records) n 0 3 → 2 ≤ n
opposite_far zero e = omega arith
opposite_far (suc zero) (m, j, e) = absurd (both_ways ((chart 4 square_records).coupled 0 3) refl (subst (λ (x : ℕ). (chart 4 square_records).coupled 0 x ≡ true) e j))
opposite_far (suc (suc n)) w = omega arith

pub worked_chips : WorkedChips
worked_chips = record {
  three_wires = three;
  square = accepted 4 square_records (record { some_wire = omega arith; not_many = omega arith; whole = refl })
      (tested_good 4 square_records refl) (tested_timed 4 square_records refl) square_walks;
  opposite = record { walk = (1, refl, (3, refl, refl)); shortest = opposite_far };
}
