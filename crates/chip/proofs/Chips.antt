-- What holds of every chip, for the crates above, and that `Chip::new` has one answer.
use Rattle.std.proofs.Common.{◌≡◌, ℕ, zero, suc, ◌+◌, ◌<◌, ◌≤◌, true, false, ◌⊎◌, List, IfOk, Ok, Err, Result, Some, None, Option, MatchOption, sym, ◌∙◌, subst, inl, inr, ⊎_elim, arith}
use mathlib.Core.HLevel.{⊥_prop}
use mathlib.Core.Logic.{∥∥₁_elim}
use Rattle.std.proofs.lemmas.Bool.{cases_eq, cases_lt, cases_Bool, both_ways}
use Rattle.std.specs.Option.{option_map}
use Rattle.rows.specs.declared.place.Wire.{Wire}
use Rattle.rows.specs.declared.refusal.Fault.{Fault}
use Rattle.rows.proofs.OneRefusal.{turned_same}
use Rattle.chip.specs.declared.chip.Chip.{Chip}
use Rattle.chip.specs.Charts.{Chart, Walk, Distance, OnChip, OneNearer, Lowest, ChipFits, Inside, GoodChart}
use Rattle.chip.specs.Tables.{flag_at, number_at}
use Rattle.chip.specs.Chips.{chart_of, ChipAnswer, SameAnswer}
use Rattle.chip.proofs.Walks.{unsnoc}

abbrev pub wire : ℕ → Wire
wire w = record { 0 = w }

-- a number below n with a property that is decided, or none
pub find_below : (n : ℕ) (P : ℕ → Type 0) → ((m : ℕ) → P m ⊎ ¬ P m) → ((m : ℕ) × (m < n) × P m) ⊎ ((m : ℕ) → m < n → ¬ P m)
find_below zero P d = inr (λ m l. let f : ⊥ = omega arith in absurd f)
find_below (suc n) P d = ⊎_elim
    (λ (p : P n). inl (n, omega arith, p))
    (λ (none : ¬ P n). ⊎_elim
    (λ (r : (m : ℕ) × (m < n) × P m). inl (r.0, omega (arith, r.1), r.2))
    (λ (r : (m : ℕ) → m < n → ¬ P m). inr (λ m l p. ⊎_elim
    (λ (s : m < n). r m s p)
    (λ (s : n ≤ m). let e : m ≡ n = omega arith in none (subst P e p))
    (cases_lt m n)))
    (find_below n P d))
    (d n)

module _ (c : Chart) (inside : Inside c) where
  step_decided : (a b m : ℕ) (W : Type 0) → W ⊎ ¬ W → ((c.coupled a m ≡ true) × W) ⊎ ¬ ((c.coupled a m ≡ true) × W)
  step_decided a b m W d = ⊎_elim
      (λ (i : c.coupled a m ≡ true). ⊎_elim (λ (w : W). inl (i, w)) (λ (none : ¬ W). inr (λ p. none p.1)) d)
      (λ (i : c.coupled a m ≡ false). inr (λ p. both_ways (c.coupled a m) i p.0))
      (cases_Bool (c.coupled a m))

  -- there is a walk of n couplings, or there is none
  pub walk_decided : (n a b : ℕ) → Walk c n a b ⊎ ¬ Walk c n a b
  walk_decided zero a b = cases_eq a b
  walk_decided (suc n) a b = ⊎_elim
      (λ (r : (m : ℕ) × (m < c.wires) × ((c.coupled a m ≡ true) × Walk c n m b)). inl (r.0, r.2.0, r.2.1))
      (λ (r : (m : ℕ) → m < c.wires → ¬ ((c.coupled a m ≡ true) × Walk c n m b)). inr (λ w. r w.0 (inside a w.0 w.1).1 (w.1, w.2)))
      (find_below c.wires (λ (m : ℕ). (c.coupled a m ≡ true) × Walk c n m b) (λ m. step_decided a b m (Walk c n m b) (walk_decided n m b)))

  -- a distance that is known to exist
  pub distance_plain : (a b d : ℕ) → ∥ Distance c a b d ∥₁ → Distance c a b d
  distance_plain a b d h = record {
    walk = ⊎_elim (λ (w : Walk c d a b). w) (λ (none : ¬ Walk c d a b). absurd (∥∥₁_elim h ⊥_prop (λ r. none r.walk))) (walk_decided d a b);
    shortest = λ n w. ⊎_elim
        (λ (l : n < d). absurd (∥∥₁_elim h ⊥_prop (λ r. let s = r.shortest n w in omega arith)))
        (λ (l : d ≤ n). l)
        (cases_lt n d);
  }

-- two wires have one distance
pub distance_same : (c : Chart) (a b d e : ℕ) → Distance c a b d → Distance c a b e → d ≡ e
distance_same c a b d e p q =
    let x = p.shortest e q.walk in
    let y = q.shortest d p.walk in omega arith

module _ (c : Chip) where
  pub chip_distance : (a b : ℕ) → a < c.wires → b < c.wires → Distance (chart_of c) a b (number_at c.distances a b)
  chip_distance a b la lb = distance_plain (chart_of c) c.inside a b (number_at c.distances a b) (c.distant a b (la, lb))

  -- the chart of every chip is good
  pub chip_good : GoodChart (chart_of c)
  chip_good = record {
    some_wire = c.some;
    not_many = c.few;
    inside = c.inside;
    symmetric = c.symmetric;
    irreflexive = c.irreflexive;
    timed = λ k l m. c.timed k (l, m);
    connected = λ a b la lb. (number_at c.distances a b, c.near a b (la, lb), chip_distance a b la lb);
  }

pub results_good : (r : Result Chip Fault) → IfOk r (λ c. GoodChart (chart_of c))
results_good (Ok c) = chip_good c
results_good (Err f) = tt

-- for each input one answer
pub one_answer : (n : ℕ) (bs : List ℕ) (r s : Result Chip Fault) → ChipAnswer n bs r → ChipAnswer n bs s → SameAnswer r s
one_answer n bs (Ok c) (Ok d) p q = p.1 ∙ sym q.1
one_answer n bs (Ok c) (Err g) p q = p.0 g.refusal g.place q.holds
one_answer n bs (Err f) (Ok d) p q = q.0 f.refusal f.place p.holds
one_answer n bs (Err f) (Err g) p q = turned_same (ChipFits n bs) f g p q

-- wires that are not both of the chip have no distance above 0
pub off_chip : (c : Chart) → Inside c → (a b : ℕ) → ¬ OnChip c a b → (d : ℕ) → 0 < d → ¬ Distance c a b d
off_chip c inside a b off zero l r = omega arith
off_chip c inside a b off (suc d) l r =
    let w = r.walk in
    let z = unsnoc c d a b w in
    off ((inside a w.0 w.1).0, (inside z.0 b z.2).1)

module _ (c : Chip) (a b : ℕ) (la : a < c.wires) (lb : b < c.wires) (here : ℕ) (is : Distance (chart_of c) a b here) where
  -- a neighbour that is one nearer, by the table
  pub table_nearer : (w : ℕ) → flag_at c.couplings.rows a w ≡ true → number_at c.distances w b + 1 ≡ here → OneNearer (chart_of c) a b w
  table_nearer w j e = record {
    neighbour = j;
    left = number_at c.distances w b;
    there = chip_distance c w b (c.inside a w j).1 lb;
    here = subst (λ (d : ℕ). Distance (chart_of c) a b d) (sym e) is;
  }

  pub nearer_table : (w : ℕ) → OneNearer (chart_of c) a b w → (flag_at c.couplings.rows a w ≡ true) × (number_at c.distances w b + 1 ≡ here)
  nearer_table w n =
      let s : number_at c.distances w b ≡ n.left = distance_same (chart_of c) w b (number_at c.distances w b) n.left (chip_distance c w b (c.inside a w n.neighbour).1 lb) n.there in
      let t : n.left + 1 ≡ here = distance_same (chart_of c) a b (n.left + 1) here n.here is in
      (n.neighbour, omega arith)

  -- where the distance is above 0 there is one
  pub some_nearer : ((w : ℕ) → w < c.wires → flag_at c.couplings.rows a w ≡ true → number_at c.distances w b + 1 ≡ here → ⊥) → (d : ℕ) → 0 < d → ¬ Distance (chart_of c) a b d
  some_nearer none zero l r = omega arith
  some_nearer none (suc d) l r =
      let w = r.walk in
      let m = w.0 in
      let i = c.inside a m w.1 in
      let far : Distance (chart_of c) m b (number_at c.distances m b) = chip_distance c m b i.1 lb in
      let x : number_at c.distances m b ≤ d = far.shortest d w.2 in
      let y : here ≤ suc (number_at c.distances m b) = is.shortest (suc (number_at c.distances m b)) (m, w.1, far.walk) in
      let z : suc d ≤ here = r.shortest here is.walk in
      none m i.1 w.1 (omega arith)

  -- the first neighbour that is one nearer, by the table
  pub nearest : (r : Option ℕ) → MatchOption r
      ((k : ℕ) → 0 ≤ k → k < c.wires → flag_at c.couplings.rows a k ≡ true → number_at c.distances k b + 1 ≡ here → ⊥)
      (λ i. (0 ≤ i) × (i < c.wires) × ((flag_at c.couplings.rows a i ≡ true) × (number_at c.distances i b + 1 ≡ here))
      × ((k : ℕ) → 0 ≤ k → k < i → flag_at c.couplings.rows a k ≡ true → number_at c.distances k b + 1 ≡ here → ⊥))
      → MatchOption (option_map wire r)
      ((d : ℕ) → 0 < d → ¬ Distance (chart_of c) a b d)
      (λ w. Lowest (OneNearer (chart_of c) a b) w.0)
  nearest None none = some_nearer (λ w l. none w (omega arith) l)
  nearest (Some i) (z, l, here', before) = record {
    holds = table_nearer i here'.0 here'.1;
    none_lower = λ v m n. let t = nearer_table v n in before v (omega arith) m t.0 t.1;
  }
