-- The step that routing makes next: one at most, one while a gate is open, and it meets the rules.
use Rattle.std.proofs.Common.{◌≡◌, ℕ, zero, suc, ◌+◌, ◌<◌, ◌≤◌, min, max, true, ◌⊎◌, length, sym, refl, ap, ◌∙◌, subst, ap₂, inl, inr, ⊎_elim, arith}
use Rattle.std.proofs.lemmas.Bool.{both_ways, cases_lt, cases_eq, cases_order}
use Rattle.rows.specs.Steps.{gate, swap, Timed, first_of, second_of, pair_below}
use Rattle.rows.proofs.Decoding.{gate_step_decodes, swap_decodes}
use Rattle.chip.specs.Charts.{Chart, Distance, OneNearer, Lowest, GoodChart}
use Rattle.chip.proofs.Chips.{distance_same}
use Rattle.sheet.specs.Sheets.{Plan, Log, Open, NoneOpen, Front, placed, larger_free}
use Rattle.sheet.specs.Runs.{Reached, GoodPlaces, GoodPlan}
use Rattle.theory.proofs.Sheets.{laid_good, reached_places}
use Rattle.routing.specs.Routing.{Ready, HoldsFront, Candidate, Sum, Adds, tried, Cost, NoWorse, Best, swap_of, timed, Makes, does, exchanges, moves}
use Rattle.routing.specs.Laws.{OneStep, RulesMet, MeetsRules}
use Rattle.routing.proofs.Deciding.{Decided, some_below, least, lowest_same}
use Rattle.routing.proofs.Distances.{two_apart, one_nearer, nearest}
use Rattle.routing.proofs.Fronts.{front_decided, ready_decided, candidate_decided, lowest_front, has_first, unjoined, pair_from, traded_good, placed_good, first_inside, second_inside}

-- AT MOST ONE

wins_same : (k a b k' a' b' : ℕ) → NoWorse k a b k' a' b' → NoWorse k' a' b' k a b → (a ≡ a') × (b ≡ b')
wins_same k a b k' a' b' h l = (omega arith, omega arith)

pub best_same : (p : Plan) (l : Log) (a b a' b' : ℕ) → Best p l a b → Best p l a' b' → (a ≡ a') × (b ≡ b')
best_same p l a b a' b' x y = wins_same x.price a b y.price a' b' (x.wins a' b' y.price y.candidate y.costs) (y.wins a b x.price x.candidate x.costs)

pub makes_same : (p : Plan) (l : Log) (swaps : ℕ) (t u : Timed) → Makes p l swaps t → Makes p l swaps u → t ≡ u
makes_same p l swaps t u (does i x e) (does j y f) = e ∙ ap (λ n. timed l (gate (placed p l n))) (lowest_same (Ready p l) i j x y) ∙ sym f
makes_same p l swaps t u (does i x e) (exchanges n h a b k f) = absurd (n i x.holds)
makes_same p l swaps t u (does i x e) (moves n h j k w r f) = absurd (n i x.holds)
makes_same p l swaps t u (exchanges n h a b k f) (does i x e) = absurd (n i x.holds)
makes_same p l swaps t u (exchanges n h a b k f) (exchanges n' h' a' b' k' f') =
    let (x, y) = best_same p l a b a' b' k k' in f ∙ ap₂ (λ a b. timed l (swap a b)) x y ∙ sym f'
makes_same p l swaps t u (exchanges n h a b k f) (moves n' h' i k' w r f') = absurd (omega arith)
makes_same p l swaps t u (moves n h j k w r f) (does i x e) = absurd (n i x.holds)
makes_same p l swaps t u (moves n' h' i k' w r f') (exchanges n h a b k f) = absurd (omega arith)
makes_same p l swaps t u (moves n h i k w r f) (moves n' h' i' k' w' r' f') =
    let e = lowest_same (Front p l) i i' k k' in
    let s = subst (λ j. Lowest (OneNearer p.chart (first_of (placed p l j)) (second_of (placed p l j))) w) e r in
    f ∙ ap₂ (λ j v. timed l (swap_of (first_of (placed p l j)) v)) e (lowest_same _ w w' s r') ∙ sym f'

-- none without an open gate
pub none_made : (p : Plan) (l : Log) → NoneOpen p l → (swaps : ℕ) (t : Timed) → ¬ Makes p l swaps t
none_made p l none swaps t (does i x e) = none i x.holds.front.listed x.holds.front.is_open
none_made p l none swaps t (exchanges n h a b k e) =
    ⊎_elim (λ (i, f, _). none i f.listed f.is_open) (λ (i, f, _). none i f.listed f.is_open) k.candidate.at_front
none_made p l none swaps t (moves n h i k w r e) = none i k.holds.listed k.holds.is_open

-- COSTS

sum_exists : (F : ℕ → ℕ → Type 0) → ((i : ℕ) → (d : ℕ) × F i d) → (n : ℕ) → (k : ℕ) × Sum F n k
sum_exists F f zero = (0, refl)
sum_exists F f (suc n) = let (j, s) = sum_exists F f n in let (d, a) = f n in (j + d, (j, d, s, a, refl))

sum_same : (F : ℕ → ℕ → Type 0) → ((i d e : ℕ) → F i d → F i e → d ≡ e) → (n k m : ℕ) → Sum F n k → Sum F n m → k ≡ m
sum_same F f zero k m x y = x ∙ sym y
sum_same F f (suc n) k m x y = x.4 ∙ ap₂ ◌+◌ (sum_same F f n x.0 y.0 x.2 y.2) (f n x.1 y.1 x.3 y.3) ∙ sym y.4

pub adds_same : (p : Plan) (l : Log) (i d e : ℕ) → Adds p l i d → Adds p l i e → d ≡ e
adds_same p l i d e x y = ⊎_elim (λ f. distance_same p.chart _ _ d e (x.in_front f) (y.in_front f)) (λ n. x.elsewhere n ∙ sym (y.elsewhere n)) (front_decided p l i)

pub cost_same : (p : Plan) (l : Log) (a b k m : ℕ) → Cost p l a b k → Cost p l a b m → k ≡ m
cost_same p l a b k m = sum_same (Adds p (tried a b l)) (adds_same p (tried a b l)) (length p.gates) k m

-- THE RULES

-- an exchange of coupled wires, lower wire first
pub swap_of_is : (c : Chart) → GoodChart c → (x w : ℕ) → c.coupled x w ≡ true →
    (a b : ℕ) × (swap_of x w ≡ swap a b) × (c.coupled a b ≡ true)
swap_of_is c chip x w e = ⊎_elim
    (λ (q : x ≡ w). absurd (both_ways _ (chip.irreflexive x) (subst (λ v. c.coupled x v ≡ true) (sym q) e)))
    (λ o. ⊎_elim
    (λ (h : x < w). let i : min x w ≡ x = omega arith in let j : max x w ≡ w = omega arith in (x, w, ap₂ swap i j, e))
    (λ (h : w < x). let i : min x w ≡ w = omega arith in let j : max x w ≡ x = omega arith in (w, x, ap₂ swap i j, chip.symmetric w x ∙ e)) o)
    (cases_order x w)

module _ (p : Plan) (plan : GoodPlan p) (chip : GoodChart p.chart) where
  coupled_pair : (a b : ℕ) → p.chart.coupled a b ≡ true → pair_below p.chart.wires a b ≡ true
  coupled_pair a b e = let (h, k) = chip.inside a b e in
      pair_from _ a b h k (λ q. both_ways _ (chip.irreflexive a) (subst (λ v. p.chart.coupled a v ≡ true) (sym q) e))

  swap_rules : (l : Log) (a b : ℕ) → p.chart.coupled a b ≡ true → RulesMet p l (timed l (swap a b))
  swap_rules l a b e = record { shape = swap_decodes _ a b (larger_free l.free (swap a b)) (coupled_pair a b e); coupling = e; clock = refl; order = tt }

  module _ (l : Log) (places : GoodPlaces p.chart.wires (length p.first) l.places) where
    -- every step made next meets the rules
    pub rules_met : (swaps : ℕ) → MeetsRules p l swaps
    rules_met swaps t (does i x e) = let f = x.holds.front in let g = placed_good p plan l places i f.listed in subst (RulesMet p l) (sym e) (record {
      shape = gate_step_decodes _ (placed p l i) (larger_free l.free (gate (placed p l i))) g.fitting g.k;
      coupling = x.holds.coupling;
      clock = refl;
      order = (i, record { front = f; same = refl });
    })
    rules_met swaps t (exchanges n h a b k e) = subst (RulesMet p l) (sym e) (swap_rules l a b k.candidate.coupling)
    rules_met swaps t (moves n h i k w r e) =
        let (a, b, q, j) = swap_of_is p.chart chip (first_of (placed p l i)) w r.holds.neighbour in
        subst (RulesMet p l) (sym (e ∙ ap (timed l) q)) (swap_rules l a b j)

    -- ONE WHILE A GATE IS OPEN

    pub apart : (i : ℕ) → i < length p.gates → (d : ℕ) × Distance p.chart (first_of (placed p l i)) (second_of (placed p l i)) d
    apart i h = let (d, _, r) = chip.connected _ _ (first_inside p plan l places i h) (second_inside p plan l places i h) in (d, r)

    adds : (i : ℕ) → (d : ℕ) × Adds p l i d
    adds i = ⊎_elim
        (λ f. let (d, r) = apart i f.listed in (d, record { in_front = λ _. r; elsewhere = λ n. absurd (n f) }))
        (λ n. (0, record { in_front = λ f. absurd (n f); elsewhere = λ _. refl }))
        (front_decided p l i)

    -- a front gate that is not ready is two couplings away at least
    pub far_apart : (i : ℕ) → Front p l i → ¬ Ready p l i → (d : ℕ) × Distance p.chart (first_of (placed p l i)) (second_of (placed p l i)) (suc (suc d))
    far_apart i f n =
        let (u, v) = unjoined p.chart p.chart.wires (placed p l i) (placed_good p plan l places i f.listed).fitting (λ e. n (record { front = f; coupling = e })) in
        let (d, r) = apart i f.listed in go d r (two_apart p.chart _ _ d u v r)
      where
        go : (d : ℕ) → Distance p.chart (first_of (placed p l i)) (second_of (placed p l i)) d → 2 ≤ d →
            (d : ℕ) × Distance p.chart (first_of (placed p l i)) (second_of (placed p l i)) (suc (suc d))
        go zero r h = absurd (omega arith)
        go (suc zero) r h = absurd (omega arith)
        go (suc (suc d)) r h = (d, r)

  module _ (l : Log) (places : GoodPlaces p.chart.wires (length p.first) l.places) where
    -- every exchange of wires of the chip has a cost
    pub cost : (a b : ℕ) → a < p.chart.wires → b < p.chart.wires → (k : ℕ) × Cost p l a b k
    cost a b h k = sum_exists (Adds p (tried a b l)) (adds (tried a b l) (traded_good _ _ l.places places a b h k)) (length p.gates)

    -- (a, b) is a candidate of cost k
    abbrev Priced : ℕ → ℕ → ℕ → Type 0
    Priced k a b = Candidate p l a b × Cost p l a b k

    priced_decided : (k a b : ℕ) → Decided (Priced k a b)
    priced_decided k a b = go (candidate_decided p l a b)
      where
        go : Decided (Candidate p l a b) → Decided (Priced k a b)
        go (inr n) = inr (λ x. n x.0)
        go (inl h) = let (i, j) = chip.inside a b h.coupling in let (m, s) = cost a b i j in ⊎_elim
            (λ (e : m ≡ k). inl (h, subst (Cost p l a b) e s))
            (λ n. inr (λ x. n (cost_same p l a b m k s x.1)))
            (cases_eq m k)

    abbrev From : ℕ → ℕ → Type 0
    From k a = (b : ℕ) × (b < p.chart.wires) × Priced k a b

    from_decided : (k a : ℕ) → Decided (From k a)
    from_decided k a = some_below p.chart.wires (Priced k a) (priced_decided k a)

    abbrev Any : ℕ → Type 0
    Any k = (a : ℕ) × (a < p.chart.wires) × From k a

    any : (k a b : ℕ) → Priced k a b → Any k
    any k a b x = let (h, i) = chip.inside a b x.0.coupling in (a, h, (b, i, x))

    wins : (k a b : ℕ) → Lowest Any k → Lowest (From k) a → Lowest (Priced k a) b → (a' b' k' : ℕ) → Candidate p l a' b' → Cost p l a' b' k' → NoWorse k a b k' a' b'
    wins k a b lk la lb a' b' k' h s = by_cost (cases_order k k')
      where
        by_high : k ≡ k' → a ≡ a' → (b' < b) ⊎ (b ≤ b') → NoWorse k a b k' a' b'
        by_high e f (inr m) = inr (e, inr (f, m))
        by_high e f (inl m) = absurd (lb.none_lower b' m (subst (λ x. Priced k x b') (sym f) (h, subst (Cost p l a' b') (sym e) s)))

        by_low : k ≡ k' → (a ≡ a') ⊎ ((a < a') ⊎ (a' < a)) → NoWorse k a b k' a' b'
        by_low e (inl f) = by_high e f (cases_lt b' b)
        by_low e (inr (inl m)) = inr (e, inl m)
        by_low e (inr (inr m)) = absurd (la.none_lower a' m (b', (chip.inside a' b' h.coupling).1, (h, subst (Cost p l a' b') (sym e) s)))

        by_cost : (k ≡ k') ⊎ ((k < k') ⊎ (k' < k)) → NoWorse k a b k' a' b'
        by_cost (inl e) = by_low e (cases_order a a')
        by_cost (inr (inl m)) = inl m
        by_cost (inr (inr m)) = absurd (lk.none_lower k' m (any k' a' b' (h, s)))

    pub best : (a b : ℕ) → Candidate p l a b → (a : ℕ) × (b : ℕ) × Best p l a b
    best a₀ b₀ h =
        let (i, j) = chip.inside a₀ b₀ h.coupling in
        let (m, s) = cost a₀ b₀ i j in
        let (k, _, lk) = least Any (λ k. some_below p.chart.wires (From k) (from_decided k)) m (any _ a₀ b₀ (h, s)) in
        let (a, _, la) = least (From k) (from_decided k) lk.holds.0 lk.holds.2 in
        let (b, _, lb) = least (Priced k a) (priced_decided k a) la.holds.0 la.holds.2 in
        (a, b, record { candidate = lb.holds.0; price = k; costs = lb.holds.1; wins = wins k a b lk la lb })

    pub some_candidate : (i : ℕ) → Front p l i → ¬ Ready p l i → (a : ℕ) × (b : ℕ) × Candidate p l a b
    some_candidate i f n =
        let (d, r) = far_apart l places i f n in
        let (v, e, _) = one_nearer p.chart _ _ (suc d) r in
        go v e (cases_order (first_of (placed p l i)) v)
      where
        there : HoldsFront p l (first_of (placed p l i))
        there = (i, f, has_first (placed p l i))

        go : (v : ℕ) → p.chart.coupled (first_of (placed p l i)) v ≡ true →
            (first_of (placed p l i) ≡ v) ⊎ ((first_of (placed p l i) < v) ⊎ (v < first_of (placed p l i))) → (a : ℕ) × (b : ℕ) × Candidate p l a b
        go v e (inl q) = absurd (both_ways _ (chip.irreflexive _) (subst (λ w. p.chart.coupled (first_of (placed p l i)) w ≡ true) (sym q) e))
        go v e (inr (inl h)) = (first_of (placed p l i), v, record { lower_first = h; coupling = e; at_front = inl there })
        go v e (inr (inr h)) = (v, first_of (placed p l i), record { lower_first = h; coupling = chip.symmetric v _ ∙ e; at_front = inr there })

    pub makes_one : (swaps i : ℕ) → i < length p.gates → Open l i → (t : Timed) × Makes p l swaps t
    makes_one swaps i h o = by_ready (some_below (length p.gates) (Ready p l) (ready_decided p l))
      where
        by_swaps : ((i : ℕ) → ¬ Ready p l i) → (j : ℕ) → Lowest (Front p l) j → (swaps < p.chart.wires) ⊎ (p.chart.wires ≤ swaps) → (t : Timed) × Makes p l swaps t
        by_swaps n j m (inl few) =
            let (a₀, b₀, c) = some_candidate j m.holds (n j) in
            let (a, b, k) = best a₀ b₀ c in (timed l (swap a b), exchanges n few a b k refl)
        by_swaps n j m (inr many) =
            let (d, r) = far_apart l places j m.holds (n j) in
            let (w, s) = nearest p.chart chip _ _ (suc d) (second_inside p plan l places j m.holds.listed) r in
            (timed l (swap_of (first_of (placed p l j)) w), moves n many j m w s refl)

        by_ready : Decided ((i : ℕ) × (i < length p.gates) × Ready p l i) → (t : Timed) × Makes p l swaps t
        by_ready (inl (j, _, r)) = let (k, _, m) = least (Ready p l) (ready_decided p l) j r in (timed l (gate (placed p l k)), does k m refl)
        by_ready (inr n) = let (j, m) = lowest_front p l i h o in by_swaps (λ j r. n (j, r.front.listed, r)) j m (cases_lt swaps p.chart.wires)

module _ (p : Plan) (l : Log) (reached : Reached p l) (chip : GoodChart p.chart) where
  plan : GoodPlan p
  plan = laid_good p reached.plan

  places : GoodPlaces p.chart.wires (length p.first) l.places
  places = reached_places p l reached

  pub one_step : (swaps : ℕ) → OneStep p l swaps
  one_step swaps = record {
    while_open = λ i h o. let (t, m) = makes_one p plan chip l places swaps i h o in (t, m, λ u n. makes_same p l swaps u t n m);
    then_none = λ none t. none_made p l none swaps t;
  }

  pub meets_rules : (swaps : ℕ) → MeetsRules p l swaps
  meets_rules swaps = rules_met p plan chip l places swaps

  -- every exchange of wires of the chip has a cost
  pub some_cost : (a b : ℕ) → a < p.chart.wires → b < p.chart.wires → (k : ℕ) × Cost p l a b k
  some_cost = cost p plan chip l places
