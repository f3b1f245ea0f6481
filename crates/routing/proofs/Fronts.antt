-- The front and its gates at their wires.
use Rattle.std.proofs.Common.{◌≡◌, ℕ, ◌<◌, true, false, ◌⊎◌, List, [], ◌∷◌, length, get_or, sym, refl, ap, ◌∙◌, subst, ap₂, inl, inr, ⊎_elim, le_refl, arith}
use Rattle.std.proofs.lemmas.Bool.Decides.{nat_tests}
use Rattle.std.proofs.lemmas.Bool.{both_ways, cases_eq, cases_Bool}
use Rattle.rows.specs.Kinds.{k_suits}
use Rattle.rows.specs.Steps.{Gate, one, two, gate, kind_of, k_of, first_of, second_of, pair_below, fits, has, shares, relabel, trade, GoodGate}
use Rattle.chip.specs.Charts.{Chart, Lowest, joined}
use Rattle.sheet.specs.Sheets.{Plan, Log, Open, Front, at, gate_number, placed, places_traded}
use Rattle.sheet.specs.Runs.{GoodPlaces, GoodPlan}
use Rattle.theory.proofs.Places.{fits_at, good_traded, at_traded}
use Rattle.routing.specs.Routing.{Ready, HoldsFront, Candidate, tried}
use Rattle.routing.proofs.Deciding.{Decided, both, one_of, bool_is, below, lowest_below, some_below, least}

module _ (p : Plan) (l : Log) where
  -- gate j is open and has a qubit in common with gate i
  abbrev Blocks : ℕ → ℕ → Type 0
  Blocks i j = Open l j × (shares (gate_number p j) (gate_number p i) ≡ true)

  pub front_decided : (i : ℕ) → Front p l i ⊎ ¬ Front p l i
  front_decided i = go (below i (length p.gates)) (bool_is (get_or l.done i true) false) (lowest_below i (Blocks i) (λ j. both (bool_is _ _) (bool_is _ _)))
    where
      go : Decided (i < length p.gates) → Decided (Open l i) → ((j : ℕ) × (j < i) × Lowest (Blocks i) j) ⊎ ((j : ℕ) → j < i → ¬ Blocks i j) → Decided (Front p l i)
      go (inr n) o b = inr (λ f. n f.listed)
      go (inl h) (inr n) b = inr (λ f. n f.is_open)
      go (inl h) (inl o) (inl (j, k, b)) = inr (λ f. both_ways _ (f.earliest j k b.holds.0) b.holds.1)
      go (inl h) (inl o) (inr none) = inl (record {
        listed = h;
        is_open = o;
        earliest = λ j k q. ⊎_elim (λ e. absurd (none j k (q, e))) (λ e. e) (cases_Bool (shares (gate_number p j) (gate_number p i)));
      })

  pub ready_decided : (i : ℕ) → Ready p l i ⊎ ¬ Ready p l i
  ready_decided i = ⊎_elim (λ (f, e). inl (record { front = f; coupling = e })) (λ n. inr (λ r. n (r.front, r.coupling)))
      (both (front_decided i) (bool_is (joined p.chart (gate (placed p l i))) true))

  pub holds_decided : (w : ℕ) → HoldsFront p l w ⊎ ¬ HoldsFront p l w
  holds_decided w = ⊎_elim (λ (i, _, (f, e)). inl (i, f, e)) (λ n. inr (λ (i, f, e). n (i, f.listed, (f, e))))
      (some_below (length p.gates) (λ i. Front p l i × (has (placed p l i) w ≡ true)) (λ i. both (front_decided i) (bool_is _ _)))

  pub candidate_decided : (a b : ℕ) → Candidate p l a b ⊎ ¬ Candidate p l a b
  candidate_decided a b = ⊎_elim
      (λ (h, (e, f)). inl (record { lower_first = h; coupling = e; at_front = f }))
      (λ n. inr (λ x. n (x.lower_first, (x.coupling, x.at_front))))
      (both (below a b) (both (bool_is (p.chart.coupled a b) true) (one_of (holds_decided a) (holds_decided b))))

  -- some gate is open, or none
  pub open_decided : ((i : ℕ) × (i < length p.gates) × Open l i) ⊎ ¬ ((i : ℕ) × (i < length p.gates) × Open l i)
  open_decided = some_below (length p.gates) (Open l) (λ i. bool_is _ _)

  -- where a gate is open, the lowest open gate is the lowest of the front
  pub lowest_front : (i : ℕ) → i < length p.gates → Open l i → (j : ℕ) × Lowest (Front p l) j
  lowest_front i h o = let (j, k, m) = least (Open l) (λ j. bool_is _ _) i o in (
    j,
    record {
      holds = record { listed = omega arith; is_open = m.holds; earliest = λ j k q. absurd (m.none_lower j k q) };
      none_lower = λ j k f. m.none_lower j k f.is_open;
    },
  )

-- the same gates are of the front in every log with the same gates done
pub front_same : (p : Plan) (l u : Log) → l.done ≡ u.done → (i : ℕ) → Front p l i → Front p u i
front_same p l u e i f = record {
  listed = f.listed;
  is_open = ap (λ ds. get_or ds i true) (sym e) ∙ f.is_open;
  earliest = λ j h o. f.earliest j h (ap (λ ds. get_or ds j true) e ∙ o);
}

-- a gate at its wires
pub first_relabel : (f : ℕ → ℕ) (g : Gate) → first_of (relabel f g) ≡ f (first_of g)
first_relabel f (one κ k a) = refl
first_relabel f (two κ k a b) = refl

pub second_relabel : (f : ℕ → ℕ) (g : Gate) → second_of (relabel f g) ≡ f (second_of g)
second_relabel f (one κ k a) = refl
second_relabel f (two κ k a b) = refl

k_at : (q : List ℕ) (g : Gate) → k_suits (kind_of (at q g)) (k_of (at q g)) ≡ k_suits (kind_of g) (k_of g)
k_at q (one κ k a) = refl
k_at q (two κ k a b) = refl

pub has_first : (g : Gate) → has g (first_of g) ≡ true
has_first (one κ k a) = grind (arith, nat_tests)
has_first (two κ k a b) = grind (arith, nat_tests)

pub fits_first : (n : ℕ) (g : Gate) → fits n g ≡ true → first_of g < n
fits_first n (one κ k a) f = grind (arith, nat_tests)
fits_first n (two κ k a b) f = grind (arith, nat_tests)

pub fits_second : (n : ℕ) (g : Gate) → fits n g ≡ true → second_of g < n
fits_second n (one κ k a) f = grind (arith, nat_tests)
fits_second n (two κ k a b) f = grind (arith, nat_tests)

-- a gate that does not meet coupling is on two wires, different and not coupled
pub unjoined : (c : Chart) (n : ℕ) (g : Gate) → fits n g ≡ true → ¬ (joined c (gate g) ≡ true) →
    (¬ (first_of g ≡ second_of g)) × (¬ (c.coupled (first_of g) (second_of g) ≡ true))
unjoined c n (one κ k a) f u = absurd (u refl)
unjoined c n (two κ k a b) f u = ((λ e. let z : ◌≡◌ {A = ℕ} 0 1 = grind (arith, nat_tests) in omega arith), u)

pub pair_from : (n a b : ℕ) → a < n → b < n → ¬ (a ≡ b) → pair_below n a b ≡ true
pair_from n a b h k e = grind (arith, nat_tests)

-- places after an exchange of any two wires, of a wire with itself too
traded_alone : (a : ℕ) (q : List ℕ) → places_traded a a q ≡ q
traded_alone a [] = refl
traded_alone a (w ∷ q) = ap₂ ◌∷◌ (grind (arith, nat_tests)) (traded_alone a q)

pub traded_good : (N n : ℕ) (q : List ℕ) → GoodPlaces N n q → (a b : ℕ) → a < N → b < N → GoodPlaces N n (places_traded a b q)
traded_good N n q good a b h k = ⊎_elim
    (λ (e : a ≡ b). subst (λ c. GoodPlaces N n (places_traded a c q)) e (subst (GoodPlaces N n) (sym (traded_alone a q)) good))
    (λ e. good_traded N n q good a b (pair_from N a b h k e))
    (cases_eq a b)

module _ (p : Plan) (plan : GoodPlan p) (l : Log) (places : GoodPlaces p.chart.wires (length p.first) l.places) (i : ℕ) (h : i < length p.gates) where
  pub placed_good : GoodGate p.chart.wires (placed p l i)
  placed_good = record {
    fitting = fits_at p.chart.wires (length p.first) l.places places p.chart.wires (le_refl _) (gate_number p i) (plan.gates i h).fitting;
    k = k_at l.places (gate_number p i) ∙ (plan.gates i h).k;
  }

  pub first_inside : first_of (placed p l i) < p.chart.wires
  first_inside = fits_first _ (placed p l i) placed_good.fitting

  pub second_inside : second_of (placed p l i) < p.chart.wires
  second_inside = fits_second _ (placed p l i) placed_good.fitting

  -- its wires after an exchange
  traded_at : (a b : ℕ) → at (places_traded a b l.places) (gate_number p i) ≡ relabel (trade a b) (placed p l i)
  traded_at a b = at_traded a b l.places (gate_number p i) (ap (λ n. fits n (gate_number p i)) places.long ∙ (plan.gates i h).fitting)

  pub first_traded : (a b : ℕ) → first_of (placed p (tried a b l) i) ≡ trade a b (first_of (placed p l i))
  first_traded a b = ap first_of (traded_at a b) ∙ first_relabel (trade a b) (placed p l i)

  pub second_traded : (a b : ℕ) → second_of (placed p (tried a b l) i) ≡ trade a b (second_of (placed p l i))
  second_traded a b = ap second_of (traded_at a b) ∙ second_relabel (trade a b) (placed p l i)
