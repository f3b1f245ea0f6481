-- The kept steps do what the done gates and the kept exchanges do.
use Rattle.std.proofs.Common.{◌≡◌, ℕ, ◌<◌, ◌≤◌, Bool, true, false, eqb, ◌⊎◌, List, [], ◌∷◌, ◌++◌, length, get_or, set, replicate, sym, refl, ap, ◌∙◌, subst, ap₂, inl, inr, append_assoc, append-nil, arith}
use lib.ListN.{get_or-replicate, length-map}
use Rattle.std.specs.List.{AllByRecursion}
use Rattle.std.proofs.ByRecursion.{All-push}
use Rattle.std.proofs.lemmas.List.{map_push}
use Rattle.std.proofs.lemmas.Bool.{false≢true, or_cases, or_parts, eqb-true}
use Rattle.std.proofs.lemmas.Bool.Decides.{nat_tests}
use Rattle.rows.specs.Steps.{Gate, one, two, Step, gate, swap, pair_below, fits, shares, trade, GoodGate, GoodStep}
use Rattle.machine.specs.Machines.{Acts, Lawful, run, exchanges}
use Rattle.machine.proofs.Trading.{fits_trade}
use Rattle.sheet.specs.Sheets.{Plan, Log, fresh, starting, untimed, at, gate_number, Next, places_traded, Keeps}
use Rattle.sheet.specs.Runs.{GoodPlan}
use Rattle.theory.specs.Laws.{at_first, done_of, StandsBySheet}
use Rattle.theory.proofs.Places.{at_traded}
use Rattle.theory.proofs.Sheets.{laid_good, kept_good, by_steps}
use Rattle.theory.proofs.Order.{flag_set, run_append, plan_fits, fits_first, insert}

-- the places after the exchanges among the steps
abbrev moved : List Step → List ℕ → List ℕ
moved [] places = places
moved (gate g ∷ ts) places = moved ts places
moved (swap a b ∷ ts) places = moved ts (places_traded a b places)

pair_wider : (n w a b : ℕ) → n ≤ w → pair_below n a b ≡ true → pair_below w a b ≡ true
pair_wider n w a b l h = grind (arith, nat_tests)

fits_wider : (n w : ℕ) (g : Gate) → n ≤ w → fits n g ≡ true → fits w g ≡ true
fits_wider n w (one κ k a) l f = grind (arith, nat_tests)
fits_wider n w (two κ k a b) l f = grind (arith, nat_tests)

exchanges_append : (ks ts : List Step) → exchanges (ks ++ ts) ≡ exchanges ks ++ exchanges ts
exchanges_append [] ts = refl
exchanges_append (gate g ∷ ks) ts = exchanges_append ks ts
exchanges_append (swap a b ∷ ks) ts = ap (λ xs. swap a b ∷ xs) (exchanges_append ks ts)

moved_append : (ks ts : List Step) (q : List ℕ) → moved (ks ++ ts) q ≡ moved ts (moved ks q)
moved_append [] ts q = refl
moved_append (gate g ∷ ks) ts q = moved_append ks ts q
moved_append (swap a b ∷ ks) ts q = moved_append ks ts (places_traded a b q)

none_done : (gs : List Gate) → done_of (replicate (length gs) false) gs ≡ []
none_done [] = refl
none_done (g ∷ gs) = none_done gs

module _ {State : Type 0} (m : Acts State) (law : Lawful m) where
  -- a gate at the places moved by exchanges, after these, is the gate at the places before them
  through : (n : ℕ) (ks : List Step) (q : List ℕ) (g : Gate) (v : State) → fits (length q) g ≡ true → fits n (at q g) ≡ true →
      AllByRecursion (GoodStep n) ks → n ≤ m.wide v →
      m.gated (at (moved ks q) g) (run m (exchanges ks) v) ≡ run m (exchanges ks) (m.gated (at q g) v)
  through n [] q g v f f' s w = refl
  through n (gate e ∷ ks) q g v f f' s w = through n ks q g v f f' s.1 w
  through n (swap a b ∷ ks) q g v f f' s w =
      let e = at_traded a b q g f in
      through n ks (places_traded a b q) g (m.traded a b v) (ap (λ l. fits l g) (length-map q (trade a b)) ∙ f)
      (ap (fits n) e ∙ fits_trade n a b (at q g) s.0 f') s.1 (rw (law.wide_traded a b v) w) ∙
      ap (run m (exchanges ks))
      (ap (λ d. m.gated d (m.traded a b v)) e ∙ sym (law.law_2 (at q g) a b v (fits_wider n _ (at q g) w f') (pair_wider n _ a b w s.0)))

  wide_run : (ts : List Step) (u : State) → m.wide (run m ts u) ≡ m.wide u
  wide_run [] u = refl
  wide_run (gate g ∷ ts) u = wide_run ts (m.gated g u) ∙ law.wide_gated g u
  wide_run (swap a b ∷ ts) u = wide_run ts (m.traded a b u) ∙ law.wide_traded a b u

-- after the kept steps: the places are the first ones moved by the exchanges, the steps have their shape, no gate is done before
-- an earlier one that shares a qubit with it, and the steps do what the done gates and then the exchanges do
record Stands (p : Plan) (steps : List Step) (places : List ℕ) (done : List Bool) : Type 1 where
  placed : places ≡ moved steps p.first
  shaped : AllByRecursion (GoodStep p.chart.wires) steps
  ordered : (i j : ℕ) → i < j → j < length p.gates → get_or done i true ≡ false → get_or done j true ≡ true →
      shares (gate_number p i) (gate_number p j) ≡ false
  follows : (State : Type 0) (m : Acts State) → Lawful m → (u : State) → p.chart.wires ≤ m.wide u →
      run m steps u ≡ run m (at_first p (done_of done p.gates) ++ exchanges steps) u

stands_first : (p : Plan) → Stands p [] p.first (fresh p).done
stands_first p = record {
  placed = refl;
  shaped = tt;
  ordered = λ i j h k o t. absurd (false≢true (sym (get_or-replicate (length p.gates) j false true k) ∙ t));
  follows = λ State m law u w. rw none_done refl;
}

stands_gate : (p : Plan) → GoodPlan p → (l : Log) (ks : List Step) (g : Gate) (i : ℕ) → Stands p ks l.places l.done →
    GoodGate p.chart.wires g → Next p l g i → Stands p (ks ++ gate g ∷ []) l.places (set l.done i true)
stands_gate p good l ks g i st f nx = record {
  placed = st.placed ∙ sym (moved_append ks (gate g ∷ []) p.first);
  shaped = All-push (GoodStep p.chart.wires) ks (gate g) st.shaped f;
  ordered = λ a j h k o t. still a j h k (or_parts (eqb i a) (get_or l.done a true) (sym (flag_set l.done i a) ∙ o)).1
      (or_cases (eqb i j) (get_or l.done j true) (sym (flag_set l.done i j) ∙ t));
  follows = follows;
}
  where
    still : (a j : ℕ) → a < j → j < length p.gates → get_or l.done a true ≡ false → (eqb i j ≡ true) ⊎ (get_or l.done j true ≡ true) →
        shares (gate_number p a) (gate_number p j) ≡ false
    still a j h k o (inl t) =
        let same = eqb-true i j t in subst (λ y. shares (gate_number p a) (gate_number p y) ≡ false) same (nx.front.earliest a (omega arith) o)
    still a j h k o (inr t) = st.ordered a j h k o t

    fe : fits (length p.first) (gate_number p i) ≡ true
    fe = (good.gates i nx.front.listed).fitting

    -- as before, and then the gate; the gate before the exchanges; the gate in its place
    follows : (State : Type 0) (m : Acts State) → Lawful m → (u : State) → p.chart.wires ≤ m.wide u →
        run m (ks ++ gate g ∷ []) u ≡ run m (at_first p (done_of (set l.done i true) p.gates) ++ exchanges (ks ++ gate g ∷ [])) u
    follows State m law u w =
        let d = at_first p (done_of l.done p.gates) in
        let d' = at_first p (done_of (set l.done i true) p.gates) in
        run_append m ks (gate g ∷ []) u ∙
        ap₂ m.gated (sym nx.same ∙ ap (λ q. at q (gate_number p i)) st.placed) (st.follows State m law u w ∙ run_append m d (exchanges ks) u) ∙
        through m law p.chart.wires ks p.first (gate_number p i) (run m d u) fe (fits_first p good p.chart.wires (omega arith) (gate_number p i) fe) st.shaped
        (rw (wide_run m law d u) w) ∙
        ap (run m (exchanges ks))
        (insert p good m law l.done p.gates i u w (plan_fits p good) nx.front.listed nx.front.is_open (λ j h k t. st.ordered i j h k nx.front.is_open t)) ∙
        sym (run_append m d' (exchanges ks) u) ∙
        ap (λ xs. run m (d' ++ xs) u) (sym (exchanges_append ks (gate g ∷ []) ∙ append-nil (exchanges ks)))

stands_swap : (p : Plan) (l : Log) (ks : List Step) (a b : ℕ) → Stands p ks l.places l.done → pair_below p.chart.wires a b ≡ true →
    Stands p (ks ++ swap a b ∷ []) (places_traded a b l.places) l.done
stands_swap p l ks a b st f = record {
  placed = ap (places_traded a b) st.placed ∙ sym (moved_append ks (swap a b ∷ []) p.first);
  shaped = All-push (GoodStep p.chart.wires) ks (swap a b) st.shaped f;
  ordered = st.ordered;
  follows = λ State m law u w. let d = at_first p (done_of l.done p.gates) in
      run_append m ks (swap a b ∷ []) u ∙ ap (m.traded a b) (st.follows State m law u w) ∙ sym (run_append m (d ++ exchanges ks) (swap a b ∷ []) u) ∙
      ap (λ xs. run m xs u) (append_assoc d (exchanges ks) (swap a b ∷ []) ∙ ap (λ xs. d ++ xs) (sym (exchanges_append ks (swap a b ∷ []))));
}

abbrev StandsLog : Plan → Log → Type 1
StandsLog p l = Stands p (untimed l.steps) l.places l.done

stands_keeps : (p : Plan) → GoodPlan p → (l : Log) (t : Step) (s : ℕ) (l' : Log) → GoodStep p.chart.wires t → Keeps p l t s l' →
    StandsLog p l → StandsLog p l'
stands_keeps p good l (gate g) s l' f (i, nx, e) st = subst (StandsLog p) (sym e)
    (rw (map_push (λ t. t.step) l.steps (starting (gate g) s)) (stands_gate p good l (untimed l.steps) g i st f nx))
stands_keeps p good l (swap a b) s l' f e st = subst (StandsLog p) (sym e)
    (rw (map_push (λ t. t.step) l.steps (starting (swap a b) s)) (stands_swap p l (untimed l.steps) a b st f))

pub stands_by_sheet : StandsBySheet
stands_by_sheet p l reached = (by_steps p (StandsLog p)
    (λ l r l' k st. stands_keeps p (laid_good p reached.plan) l k.step r.start l' (kept_good p l r l' k) k.keeps st) (stands_first p) l reached).follows
