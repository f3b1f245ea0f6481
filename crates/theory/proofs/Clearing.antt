-- Steps clear a plan if and only if no lawful machine can tell them from the circuit.
use Rattle.std.proofs.Common.{◌≡◌, ℕ, suc, ◌+◌, ◌<◌, ◌≤◌, Bool, true, false, List, [], ◌∷◌, ◌++◌, map, length, get_or, set, replicate, sym, refl, ap, ◌∙◌, subst, ap₂, append_assoc, append-nil, arith}
use lib.ListN.{length-map}
use Rattle.std.specs.List.{AllByRecursion}
use Rattle.std.proofs.lemmas.List.{get_or-map, length_push, map_push}
use Rattle.rows.specs.declared.kind.Kind.{Kind}
use Rattle.rows.specs.declared.row.Step.{Step as StepRow}
use Rattle.rows.specs.Steps.{Gate, one, Step, gate, swap, shares, relabel, trade, GoodStep}
use Rattle.machine.specs.Machines.{run, exchanges}
use Rattle.machine.specs.Local.{Cells}
use Rattle.machine.proofs.Trading.{trade_trade}
use Rattle.machine.proofs.LocalLaws.{local_lawful}
use Rattle.chip.specs.Charts.{Chart}
use Rattle.sheet.specs.Sheets.{Plan, Log, fresh, kept, starting, untimed, at, gate_number, NoneOpen, Next, places_traded, logged}
use Rattle.sheet.specs.Runs.{AllKept, LaidPlan, Reached, GoodPlan}
use Rattle.theory.specs.Laws.{at_first, done_of, InRules, NoneCanTell, ClearsAlone}
use Rattle.theory.specs.Recorder.{Named, recording, recorder, blank}
use Rattle.theory.proofs.Rows.{some_same, step_of_good}
use Rattle.theory.proofs.Places.{shares_back, at_traded}
use Rattle.theory.proofs.Sheets.{laid_good, step_accepted, kept_adds, reached_lengths}
use Rattle.theory.proofs.Order.{AllFit, run_append, plan_fits, fits_first}
use Rattle.theory.proofs.Standing.{stands_by_sheet}
use Rattle.theory.proofs.Pulling.{relabel_trade_twice, pulled, pulled_fit, before_exchanges}
use Rattle.theory.proofs.Recording.{cancel, on, same_on}
use Rattle.theory.proofs.Finding.{open_of, on_has, Found, find, none_open, same_tail, on_trade, open_map}

-- STEPS THAT CLEAR LEAVE EVERY MACHINE AS THE CIRCUIT DOES

all_done : (ds : List Bool) (gs : List Gate) → length ds ≡ length gs → ((i : ℕ) → i < length gs → ¬ (get_or ds i true ≡ false)) → done_of ds gs ≡ gs
all_done [] [] e h = refl
all_done [] (g ∷ gs) e h = absurd (omega arith)
all_done (d ∷ ds) [] e h = absurd (omega arith)
all_done (true ∷ ds) (g ∷ gs) e h = ap (λ l. g ∷ l) (all_done ds gs (omega arith) (λ i k. h (suc i) (omega arith)))
all_done (false ∷ ds) (g ∷ gs) e h = absurd (h 0 (omega arith) refl)

-- the rows' steps are added in their order
kept_steps : (p : Plan) (rows : List StepRow) (ts : List Step) (free : List ℕ) (l l' : Log) → InRules p.chart free rows ts →
    AllKept p l rows l' → untimed l'.steps ≡ untimed l.steps ++ ts
kept_steps p [] [] free l l' r e = ap (λ m. untimed m.steps) e ∙ sym (append-nil _)
kept_steps p [] (t ∷ ts) free l l' none e = absurd none
kept_steps p (r ∷ rs) [] free l l' none e = absurd none
kept_steps p (r ∷ rs) (t ∷ ts) free l l' (d, _, _, _, more) (m, k, all) =
    kept_steps p rs ts _ m l' more all ∙
    ap (λ xs. xs ++ ts)
    (ap untimed (kept_adds p l k.step r.start m k.keeps) ∙ map_push (λ x. x.step) l.steps (starting k.step r.start) ∙
    ap (λ s. untimed l.steps ++ s ∷ []) (some_same (sym k.decoded ∙ d))) ∙
    append_assoc (untimed l.steps) (t ∷ []) ts

none_tells : (p : Plan) → LaidPlan p → (rows : List StepRow) (ts : List Step) → InRules p.chart (fresh p).free rows ts →
    (l : Log) → AllKept p (fresh p) rows l → NoneOpen p l → NoneCanTell p ts
none_tells p plan rows ts rules l all closed State m law u w k =
    let reached : Reached p l = record { plan = plan; rows = rows; steps = all } in
    let same = kept_steps p rows ts (fresh p).free (fresh p) l rules all in
    let every = all_done l.done p.gates (reached_lengths p l reached).0 closed in
    subst (λ ks. run m ks u ≡ run m (at_first p p.gates ++ exchanges ks) u) same
    (stands_by_sheet p l reached State m law u (omega arith) ∙
    ap (λ gs. run m (at_first p gs ++ exchanges (untimed l.steps)) u) every)

-- STEPS THAT LEAVE THE RECORDER AS THE CIRCUIT DOES CLEAR

map_trade_twice : (a b : ℕ) (gs : List Gate) → map (relabel (trade a b)) (map (relabel (trade a b)) gs) ≡ gs
map_trade_twice a b [] = refl
map_trade_twice a b (g ∷ gs) = ap₂ ◌∷◌ (relabel_trade_twice a b g) (map_trade_twice a b gs)

map_at_traded : (a b : ℕ) (q : List ℕ) (gs : List Gate) → AllFit (length q) gs → map (relabel (trade a b)) (map (at q) gs) ≡ map (at (places_traded a b q)) gs
map_at_traded a b q [] fs = refl
map_at_traded a b q (g ∷ gs) fs = ap₂ ◌∷◌ (sym (at_traded a b q g fs.0)) (map_at_traded a b q gs fs.1)

-- what is found among the gates at their places is next among the gates
found_next : (p : Plan) (l : Log) (g : Gate) (i : ℕ) → Found g l.done (map (at l.places) p.gates) i → Next p l g i
found_next p l g i f = record {
  front = record {
    listed = inside;
    is_open = f.is_open;
    earliest = λ j k o. shares_back (λ c. get_or l.places c 0) (gate_number p j) (gate_number p i)
        (ap₂ shares (sym (placed j (omega (arith, inside)))) (sym (placed i inside)) ∙ f.earliest j k o);
  };
  same = sym (placed i inside) ∙ f.same;
}
  where
    inside : i < length p.gates
    inside = rw length-map at f.listed

    placed : (j : ℕ) → j < length p.gates → get_or (map (at l.places) p.gates) j (one Kind.X 0 0) ≡ at l.places (gate_number p j)
    placed j k = get_or-map (at l.places) p.gates j _ _ k

-- at each wire the gates of the steps are the open gates at their places
abbrev Agree : Plan → Log → List Step → Type 0
Agree p l ts = (w : ℕ) → on w (pulled ts) ≡ on w (open_of l.done (map (at l.places) p.gates))

-- so still after an exchange
agree_traded : (p : Plan) (l : Log) (a b : ℕ) (ts : List Step) → AllFit (length l.places) p.gates → Agree p l (swap a b ∷ ts) →
    (w : ℕ) → on w (pulled ts) ≡ on w (open_of l.done (map (at (places_traded a b l.places)) p.gates))
agree_traded p l a b ts fs h w =
    let τ : List Gate → List Gate = map (relabel (trade a b)) in
    let gs = map (at l.places) p.gates in
    ap (λ v. on v (pulled ts)) (sym (trade_trade a b w)) ∙
    sym (map_trade_twice a b (on (trade a b (trade a b w)) (pulled ts))) ∙
    ap τ (sym (on_trade a b (trade a b w) (pulled ts)) ∙ h (trade a b w)) ∙
    sym (on_trade a b w (open_of l.done gs)) ∙
    ap (on w) (sym (open_map (relabel (trade a b)) l.done gs) ∙ ap (open_of l.done) (map_at_traded a b l.places p.gates fs))

-- rows in the rules whose gates agree with the open gates are all kept, and leave none open
clears_from : (p : Plan) (rows : List StepRow) (ts : List Step) (l : Log) → AllFit (length l.places) p.gates →
    InRules p.chart l.free rows ts → kept l + length rows ≤ 262144 → Agree p l ts →
    (l' : Log) × AllKept p l rows l' × NoneOpen p l'
clears_from p [] [] l fs r room h = (l, refl, λ i k. none_open l.done (map (at l.places) p.gates) h i (rw length-map k))
clears_from p [] (t ∷ ts) l fs none room h = absurd none
clears_from p (r ∷ rs) [] l fs none room h = absurd none
clears_from p (r ∷ rs) (gate g ∷ ts) l fs (d, c, f, e, more) room h =
    let gs = map (at l.places) p.gates in
    let (i, found) = find g l.done gs (λ w x. (on w (pulled ts), sym (h w) ∙ on_has w g (pulled ts) x)) in
    let nx = found_next p l g i found in
    let m = logged p l (starting (gate g) r.start) l.places (set l.done i true) in
    let (l', all, closed) = clears_from p rs ts m fs more (simp length_push (omega arith))
    (λ w. same_tail w g (pulled ts) (open_of (set l.done i true) gs) (h w ∙ found.rest w)) in (
      l',
      (m, record { accepted = step_accepted p l r (gate g) d c f e (i, nx) (omega arith); step = gate g; decoded = d; keeps = (i, nx, refl) }, all),
      closed,
    )
clears_from p (r ∷ rs) (swap a b ∷ ts) l fs (d, c, f, e, more) room h =
    let m = logged p l (starting (swap a b) r.start) (places_traded a b l.places) l.done in
    let (l', all, closed) = clears_from p rs ts m (subst (λ n. AllFit n p.gates) (sym (length-map l.places (trade a b))) fs) more
    (simp length_push (omega arith)) (agree_traded p l a b ts fs h) in (
      l',
      (m, record { accepted = step_accepted p l r (swap a b) d c f e tt (omega arith); step = swap a b; decoded = d; keeps = refl }, all),
      closed,
    )

open_first : (gs : List Gate) (f : Gate → Gate) → open_of (replicate (length gs) false) (map f gs) ≡ map f gs
open_first [] f = refl
open_first (g ∷ gs) f = ap (λ l. f g ∷ l) (open_first gs f)

map_gate_at : (q : List ℕ) (gs : List Gate) → map (λ g. gate (at q g)) gs ≡ map gate (map (at q) gs)
map_gate_at q [] = refl
map_gate_at q (g ∷ gs) = ap (λ l. gate (at q g) ∷ l) (map_gate_at q gs)

first_fit : (p : Plan) → GoodPlan p → (gs : List Gate) → AllFit (length p.first) gs → AllFit p.chart.wires (map (at p.first) gs)
first_fit p good [] fs = tt
first_fit p good (g ∷ gs) fs = (fits_first p good p.chart.wires (omega arith) g fs.0, first_fit p good gs fs.1)

rules_good : (c : Chart) (rows : List StepRow) (ts : List Step) (free : List ℕ) → InRules c free rows ts → AllByRecursion (GoodStep c.wires) ts
rules_good c [] [] free r = tt
rules_good c [] (t ∷ ts) free none = absurd none
rules_good c (r ∷ rs) [] free none = absurd none
rules_good c (r ∷ rs) (t ∷ ts) free (d, _, _, _, more) = (step_of_good _ r t d, rules_good c rs ts _ more)

-- if the recorder ends alike from its blank state, the rows clear
recorder_decides : (p : Plan) → GoodPlan p → (rows : List StepRow) (ts : List Step) → InRules p.chart (fresh p).free rows ts → length rows ≤ 262144 →
    run recorder ts (blank p.chart.wires) ≡ run recorder (at_first p p.gates ++ exchanges ts) (blank p.chart.wires) →
    (l : Log) × AllKept p (fresh p) rows l × NoneOpen p l
recorder_decides p good rows ts rules few e =
    clears_from p rows ts (fresh p) (plan_fits p good) rules (omega arith)
    (λ w. same_on p.chart.wires good.not_many (pulled ts) (map (at p.first) p.gates) (pulled_fit p.chart.wires ts shaped) (first_fit p good p.gates (plan_fits p good)) records w ∙
    ap (on w) (sym (open_first p.gates (at p.first))))
  where
    shaped : AllByRecursion (GoodStep p.chart.wires) ts
    shaped = rules_good p.chart rows ts (fresh p).free rules

    records : run recorder (map gate (pulled ts)) (blank p.chart.wires) ≡ run recorder (map gate (map (at p.first) p.gates)) (blank p.chart.wires)
    records = cancel ts (run recorder (map gate (pulled ts)) (blank p.chart.wires)) (run recorder (map gate (map (at p.first) p.gates)) (blank p.chart.wires))
        (sym (before_exchanges recorder (local_lawful recording) p.chart.wires ts shaped (blank p.chart.wires) (omega (arith, good.not_many))) ∙ e ∙
        run_append recorder (at_first p p.gates) (exchanges ts) (blank p.chart.wires) ∙
        ap (λ l. run recorder (exchanges ts) (run recorder l (blank p.chart.wires))) (map_gate_at p.first p.gates))

pub clears_alone : ClearsAlone
clears_alone p plan rows ts rules few = (
  λ (l, all, closed). none_tells p plan rows ts rules l all closed,
  λ none. recorder_decides p (laid_good p plan) rows ts rules few
      (none (Cells Named) recorder (local_lawful recording) (blank p.chart.wires) (omega (arith, (laid_good p plan).not_many)) (λ κ. refl)),
)
