-- With enough rows routing leaves no gate open: at most N exchanges in a row, N the number of wires, and then moves, each one nearer.
use Rattle.std.proofs.Common.{◌≡◌, ℕ, suc, pred, ◌+◌, ◌-◌, ◌*◌, ◌<◌, ◌≤◌, min, max, true, List, [], ◌∷◌, length, get_or, set, Some, None, Option, sym, refl, ap, ◌∙◌, subst, ⊎_elim, le_refl, add-one, arith}
use Rattle.std.proofs.lemmas.List.{length_push}
use Rattle.std.proofs.lemmas.Bool.{cases_lt}
use Rattle.std.proofs.lemmas.Bool.Decides.{nat_tests}
use Rattle.rows.specs.declared.refusal.Fault.{Fault}
use Rattle.rows.specs.Steps.{Gate, gate, swap, Timed, first_of, second_of, trade}
use Rattle.chip.specs.Charts.{Distance, OneNearer, Lowest, GoodChart}
use Rattle.chip.proofs.Chips.{distance_same}
use Rattle.sheet.specs.Sheets.{Plan, Log, NoneOpen, Front, gate_number, placed, places_traded, kept, end, logged, Keeps}
use Rattle.sheet.specs.Runs.{Reached, GoodPlaces, GoodPlan}
use Rattle.theory.proofs.Sheets.{laid_good, reached_places, kept_adds}
use Rattle.routing.specs.Routing.{Ready, Best, swap_of, timed, Makes, does, exchanges, moves, in_a_row, Routed, enough}
use Rattle.routing.specs.Laws.{RulesMet, AllDone, NeverStuck}
use Rattle.routing.proofs.Deciding.{lowest_same}
use Rattle.routing.proofs.Distances.{apart_differ, differ_apart, distance_below}
use Rattle.routing.proofs.Fronts.{front_same, lowest_front, traded_good, placed_good, first_inside, first_traded, second_traded}
use Rattle.routing.proofs.Making.{apart, far_apart, meets_rules}
use Rattle.routing.proofs.Refusing.{made_accepted}
use Rattle.routing.proofs.Ending.{made_reached}
use Rattle.routing.proofs.Counting.{weight, fewer, unjoined_weight, weight_at, pair_differs, cycles_few, larger_below, free_below, one_done, pair_done, walk_done, swap_made, last_swap, move_made}

-- an exchange of x and w takes x to w and leaves the other wires
trade_move : (x w : ℕ) → trade (min x w) (max x w) x ≡ w
trade_move x w = grind (arith, nat_tests)

trade_stay : (x w y : ℕ) → ¬ (x ≡ y) → ¬ (w ≡ y) → trade (min x w) (max x w) y ≡ y
trade_stay x w y n m = grind (arith, nat_tests)

-- the lowest gate of the front is the same in every log with the same gates done
lowest_moved : (p : Plan) (l u : Log) → l.done ≡ u.done → (i : ℕ) → Lowest (Front p l) i → Lowest (Front p u) i
lowest_moved p l u e i x = record { holds = front_same p l u e i x.holds; none_lower = λ j h f. x.none_lower j h (front_same p u l (sym e) j f) }

module _ (p : Plan) where
  abbrev N : ℕ
  N = p.chart.wires

  -- every gate of the front is on two qubits
  abbrev Paired : Log → Type 0
  Paired l = (i : ℕ) → Front p l i → weight (gate_number p i) ≡ 1

  abbrev Apart : Log → ℕ → ℕ → Type 0
  Apart l i d = Distance p.chart (first_of (placed p l i)) (second_of (placed p l i)) d

  -- the lowest gate of the front, with its distance
  record Walking (l : Log) (m : ℕ) : Type 0 where
    number : ℕ
    lowest : Lowest (Front p l) number
    far : ℕ
    apart : Apart l number far
    some : 1 ≤ far
    room : enough p l + far ≤ m + (2 * N - 1)

  -- m steps more are enough: after a gate, after some exchanges, after N exchanges
  data Room (l : Log) (swaps m : ℕ) : Type 0 where
    at_gate : swaps ≡ 0 → enough p l ≤ m → Room l swaps m
    trying : 1 ≤ swaps → swaps < N → Paired l → enough p l ≤ m + swaps → Room l swaps m
    walking : N ≤ swaps → Paired l → Walking l m → Room l swaps m

  -- a step is among the m, and after it the others are enough
  record Onward (l : Log) (swaps m : ℕ) (t : Timed) : Type 0 where
    some : m ≡ suc (pred m)
    room : (u : Log) → Keeps p l t.step t.start u → Room u (in_a_row swaps t.step) (pred m)

  none_ready : (l : Log) → ((i : ℕ) → ¬ Ready p l i) → Paired l
  none_ready l n i f = sym (weight_at l.places (gate_number p i)) ∙ unjoined_weight p.chart (placed p l i) (λ e. n i (record { front = f; coupling = e }))

  module _ (chip : GoodChart p.chart) (l : Log) (reached : Reached p l) (swaps m : ℕ) where
    plan : GoodPlan p
    plan = laid_good p reached.plan

    places : GoodPlaces N (length p.first) l.places
    places = reached_places p l reached

    -- after an exchange or a move
    abbrev after : ℕ → ℕ → Log
    after a b = logged p l (timed l (swap a b)) (places_traded a b l.places) l.done

    -- after a gate
    abbrev done : Gate → ℕ → Log
    done g i = logged p l (timed l (gate g)) l.places (set l.done i true)

    by_gate : Room l swaps m → (i : ℕ) → Front p l i → Onward l swaps m (timed l (gate (placed p l i)))
    by_gate room i f = record {
      some = (numbers room i f).0;
      room = λ u (j, n, e). subst (λ u. Room u 0 (pred m)) (sym e) (at_gate refl (numbers room j n.front).1);
    }
      where
        numbers : Room l swaps m → (i : ℕ) → Front p l i → (m ≡ suc (pred m)) × (enough p (done (placed p l i) i) ≤ pred m)
        numbers (at_gate e h) i f = let (a, b) = fewer l.done p.gates i f.listed f.is_open in one_done _ _ _ _ _ (2 * N - 2) m a b h
        numbers (trying e few paired h) i f = let (a, b) = fewer l.done p.gates i f.listed f.is_open in pair_done _ _ _ _ _ N m swaps a b (paired i f) few h
        numbers (walking many paired v) i f = let (a, b) = fewer l.done p.gates i f.listed f.is_open in
            walk_done _ _ _ _ _ N m v.far a b (paired i f) chip.some_wire v.some v.room

    by_swap : Room l swaps m → ((i : ℕ) → ¬ Ready p l i) → swaps < N → (a b : ℕ) → Best p l a b → Onward l swaps m (timed l (swap a b))
    by_swap room n few a b k = record {
      some = numbers.0;
      room = λ u e. subst (λ u. Room u (suc swaps) (pred m)) (sym e) (⊎_elim
          (λ h. trying (omega arith) h paired numbers.1) (λ h. walking h paired (walk h)) (cases_lt (suc swaps) N));
    }
      where
        v : Log
        v = after a b

        paired : Paired v
        paired i f = none_ready l n i (front_same p v l refl i f)

        front : (i : ℕ) × Front p l i
        front = ⊎_elim (λ (i, f, _). (i, f)) (λ (i, f, _). (i, f)) k.candidate.at_front

        now : Room l swaps m → enough p l ≤ m + swaps
        now (at_gate e h) = omega arith
        now (trying e h q r) = r
        now (walking many q w) = absurd (omega arith)

        numbers : (m ≡ suc (pred m)) × (enough p l ≤ pred m + suc swaps)
        numbers = let (i, f) = front in let (x, y) = fewer l.done p.gates i f.listed f.is_open in
            swap_made _ _ _ _ _ N m swaps x y (none_ready l n i f) few (now room)

        walk : N ≤ suc swaps → Walking v (pred m)
        walk many =
            let (i, x) = lowest_front p v front.0 front.1.listed front.1.is_open in
            let h = x.holds.listed in
            let (ha, hb) = chip.inside a b k.candidate.coupling in
            let good = traded_good _ _ l.places places a b ha hb in
            let (d, r) = apart p plan chip v good i h in
            record {
              number = i;
              lowest = x;
              far = d;
              apart = r;
              some = differ_apart p.chart _ _ d r (pair_differs N (placed p v i) (placed_good p plan v good i h).fitting (weight_at _ (gate_number p i) ∙ paired i x.holds));
              room = last_swap (enough p l) N (pred m) swaps d few many (distance_below p.chart chip _ _ d (first_inside p plan v good i h) r) numbers.1;
            }

    by_move : Room l swaps m → ((i : ℕ) → ¬ Ready p l i) → N ≤ swaps → (i : ℕ) → Lowest (Front p l) i → (w : ℕ) →
        Lowest (OneNearer p.chart (first_of (placed p l i)) (second_of (placed p l i))) w → Onward l swaps m (timed l (swap_of (first_of (placed p l i)) w))
    by_move room n many i k w r = record {
      some = numbers.0;
      room = λ u e. subst (λ u. Room u (suc swaps) (pred m)) (sym e) (walking (omega arith) paired
          (record { number = i; lowest = lowest_moved p l v refl i k; far = left; apart = nearer; some = left_some; room = numbers.1 }));
    }
      where
        x : ℕ
        x = first_of (placed p l i)

        y : ℕ
        y = second_of (placed p l i)

        left : ℕ
        left = r.holds.left

        v : Log
        v = after (min x w) (max x w)

        paired : Paired v
        paired j f = none_ready l n j (front_same p v l refl j f)

        here : Apart l i (suc left)
        here = rw add-one at r.holds.here

        left_some : 1 ≤ left
        left_some = let (d, s) = far_apart p plan chip l places i k.holds (n i) in let e = distance_same p.chart x y (suc (suc d)) (suc left) s here in omega arith

        nearer : Apart v i left
        nearer =
            let e = first_traded p plan l places i k.holds.listed (min x w) (max x w) ∙ trade_move x w in
            let f = second_traded p plan l places i k.holds.listed (min x w) (max x w) ∙
            trade_stay x w y (apart_differ p.chart x y (suc left) (omega arith) here) (apart_differ p.chart w y left left_some r.holds.there) in
            subst (λ a. Distance p.chart a (second_of (placed p v i)) left) (sym e) (subst (λ b. Distance p.chart w b left) (sym f) r.holds.there)

        now : Room l swaps m → enough p l + suc left ≤ m + (2 * N - 1)
        now (at_gate e h) = let o = chip.some_wire in absurd (omega arith)
        now (trying e h q s) = absurd (omega arith)
        now (walking _ q z) =
            let e = lowest_same (Front p l) z.number i z.lowest k in
            let d = distance_same p.chart x y z.far (suc left) (subst (λ j. Apart l j z.far) e z.apart) here in
            rw d at z.room

        numbers : (m ≡ suc (pred m)) × (enough p l + left ≤ pred m + (2 * N - 1))
        numbers = let (a, b) = fewer l.done p.gates i k.holds.listed k.holds.is_open in
            move_made _ _ _ _ _ N m left a b (none_ready l n i k.holds) chip.some_wire left_some (now room)

    onward : Room l swaps m → (t : Timed) → Makes p l swaps t → Onward l swaps m t
    onward room t (does i x e) = subst (Onward l swaps m) (sym e) (by_gate room i x.holds.front)
    onward room t (exchanges n few a b k e) = subst (Onward l swaps m) (sym e) (by_swap room n few a b k)
    onward room t (moves n many i k w r e) = subst (Onward l swaps m) (sym e) (by_move room n many i k w r)

  module _ (chip : GoodChart p.chart) where
    -- a step made next ends at most 4,095 cycles after the latest free cycle
    end_early : (l : Log) (t : Timed) (f : ℕ) → RulesMet p l t → ((w : ℕ) → get_or l.free w 0 ≤ f) → end p.chart t ≤ f + 4095
    end_early l t f rules free = let a = larger_below l.free t.step f free in let b = cycles_few p.chart chip t.step in let c = rules.clock in omega arith

    all_done : (ts : List Timed) (l : Log) → Reached p l → (rows made swaps m f : ℕ) → Room l swaps m → m ≤ rows → m + kept l ≤ 262144 →
        ((w : ℕ) → get_or l.free w 0 ≤ f) → f + m * 4095 ≤ 4294967295 → (l' : Log) (e : Option Fault) → Routed p l rows made swaps ts l' e → AllDone p ts l' e m
    all_done [] l reached rows made swaps m f room h k free late l' None (same, none) = record { not_refused = refl; none_open = subst (NoneOpen p) (sym same) none; few = omega arith }
    all_done [] l reached rows made swaps m f room h k free late l' (Some g) (same, (t, mk, x)) =
        let s = (onward chip l reached swaps m room t mk).some in
        let rules = meets_rules p l reached chip swaps t mk in
        let e = end_early l t f rules free in
        absurd (made_accepted p l t rules rows made (omega arith) (omega arith) (omega arith) _ _ x.holds)
    all_done (t ∷ ts) l reached rows made swaps m f room h k free late l' e (mk, ok, (u, keeps, more)) =
        let o = onward chip l reached swaps m room t mk in
        let s = o.some in
        let end_now = end_early l t f (meets_rules p l reached chip swaps t mk) free in
        let count = ap length (kept_adds p l t.step t.start u keeps) ∙ length_push l.steps _ in
        let r = all_done ts u (made_reached p chip l reached rows made swaps t u mk ok keeps) (pred rows) (suc made) (in_a_row swaps t.step) (pred m) (f + 4095)
        (o.room u keeps) (omega arith) (omega arith)
        (free_below p l t.step t.start u (f + 4095) keeps (λ w. let x = free w in omega arith) end_now) (omega arith) l' e more in
        record { not_refused = r.not_refused; none_open = r.none_open; few = (let x = r.few in omega arith) }

pub never_stuck : (p : Plan) (l : Log) → Reached p l → GoodChart p.chart → NeverStuck p l
never_stuck p l reached chip rows early enough_rows not_full ts l' e r =
    all_done p chip ts l reached rows 0 0 (enough p l) 2147483648 (at_gate refl (le_refl _)) enough_rows not_full early (omega arith) l' e r
