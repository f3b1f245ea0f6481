-- What holds of laid plans and of the logs that can come about.
use Rattle.std.proofs.Common.{◌≡◌, ℕ, ◌+◌, ◌<◌, ◌≤◌, Bool, true, false, List, [], ◌∷◌, ◌++◌, length, get_or, set, Some, None, sym, refl, ap, ◌∙◌, subst, inl, inr, ⊎_elim, arith, length-set}
use lib.ListN.{length-replicate}
use Rattle.std.proofs.lemmas.List.{length_push}
use Rattle.std.proofs.lemmas.Bool.{true≢false, cases_lt, cases_eq}
use Rattle.rows.specs.declared.kind.Kind.{Kind}
use Rattle.rows.specs.declared.row.Step.{Step as StepRow}
use Rattle.rows.specs.Steps.{Gate, Step, gate, swap, shares, gate_of, step_of, GoodGate, GoodStep}
use Rattle.rows.specs.Refusals.{Accepted}
use Rattle.chip.specs.Charts.{ragged, joined}
use Rattle.sheet.specs.Sheets.{Plan, Log, unlaid, Layout, plan_of, fresh, kept, starting, end, gate_number, Next, Ordered, larger_free, logged, Keeps}
use Rattle.sheet.specs.Refusals.{QubitsCounted, BadPlaces, bad_qubits, bad_length, bad_place, bad_row, too_many, row_number, LayFits, of_chip, bad_places, bad_gate, StepFits, bad_step, uncoupled, busy, late, not_next, full}
use Rattle.sheet.specs.Runs.{Kept, AllKept, LaidPlan, Reached, GoodPlaces, GoodPlan}
use Rattle.theory.proofs.Rows.{none_some, some_same, gate_of_good, step_of_good, gates_decoded}
use Rattle.theory.proofs.Places.{shares_self, shares_at, good_traded}

-- LAID PLANS

surely_le : (a b : ℕ) → ¬ ¬ (a ≤ b) → a ≤ b
surely_le a b h = ⊎_elim (λ l. absurd (h (λ k. omega arith))) (λ k. k) (cases_lt b a)

surely_eq : (a b : ℕ) → ¬ ¬ (a ≡ b) → a ≡ b
surely_eq a b h = ⊎_elim (λ e. e) (λ n. absurd (h n)) (cases_eq a b)

-- places that are not bad are as they should be
module _ (n qubits : ℕ) (places : List ℕ) (ok : (q : ℕ) → ¬ BadPlaces n qubits places q) where
  counted : QubitsCounted qubits
  counted = record {
    some_qubit = surely_le _ _ (λ no. ok _ (bad_qubits (λ c. no c.some_qubit)));
    not_many = surely_le _ _ (λ no. ok _ (bad_qubits (λ c. no c.not_many)));
  }

  long : length places ≡ qubits
  long = surely_eq _ _ (λ no. ok _ (bad_length counted no))

  -- no earlier qubit has the wire of a qubit
  distinct : (q r : ℕ) → q < qubits → r < q → ¬ (get_or places r 0 ≡ get_or places q 0)
  distinct q r h k e = ok q (bad_place counted long h (inr (r, k, e)))

  pub places_good : GoodPlaces n qubits places
  places_good = record {
    long = long;
    inside = λ q h. ⊎_elim (λ l. l) (λ l. absurd (ok q (bad_place counted long h (inl l)))) (cases_lt (get_or places q 0) n);
    one_to_one = λ q r h k e. surely_eq q r
        (λ no. ⊎_elim (λ l. distinct r q k l e) (λ l. distinct q r h (omega (arith, no)) (sym e)) (cases_lt q r));
  }

module _ (wide : ℕ) (knows : Kind → Bool) (x : Layout) (ok : Accepted (LayFits wide knows unlaid x)) where
  places_ok : (q : ℕ) → ¬ BadPlaces x.wires x.qubits x.places q
  places_ok q b = ok _ q (bad_places b)

  rows_ok : (i : ℕ) → i < length x.rows → ¬ (gate_of x.qubits (row_number x.rows i) ≡ None)
  rows_ok i h e = ok _ i (bad_gate (bad_row h e))

  rows_long : length (plan_of x).gates ≡ length x.rows
  rows_long = (gates_decoded x.qubits x.rows rows_ok).0

  gates_good : (i : ℕ) → i < length (plan_of x).gates → GoodGate x.qubits (gate_number (plan_of x) i)
  gates_good i h = gate_of_good x.qubits (row_number x.rows i) _ ((gates_decoded x.qubits x.rows rows_ok).1 i (omega (arith, rows_long)))

  layout_good : GoodPlan (plan_of x)
  layout_good = let places = places_good x.wires x.qubits x.places places_ok in let c = counted x.wires x.qubits x.places places_ok in record {
    some_wire = surely_le _ _ (λ no. ok _ _ (of_chip (ragged (λ e. no e.some_wire))));
    not_many = surely_le _ _ (λ no. ok _ _ (of_chip (ragged (λ e. no e.not_many))));
    some_qubit = omega (arith, places.long, c.some_qubit);
    few_qubits = omega (arith, places.long, c.not_many);
    few_gates = surely_le _ _ (λ no. ok _ _ (bad_gate (too_many (omega (arith, no, rows_long)))));
    places = subst (λ n. GoodPlaces x.wires n x.places) (sym places.long) places;
    gates = subst (λ n. (i : ℕ) → i < length (plan_of x).gates → GoodGate n (gate_number (plan_of x) i)) (sym places.long) gates_good;
  }

pub laid_good : (p : Plan) → LaidPlan p → GoodPlan p
laid_good p laid = subst GoodPlan (sym laid.given) (layout_good laid.wide laid.knows laid.layout laid.accepted)

-- KEPT STEPS

-- a gate at wires is that of one gate of the front
pub next_same : (p : Plan) (l : Log) → GoodPlan p → GoodPlaces p.chart.wires (length p.first) l.places →
    (g : Gate) (i j : ℕ) → Next p l g i → Next p l g j → i ≡ j
next_same p l good places g i j x y = surely_eq i j (λ no. ⊎_elim (λ k. clash i j x y k) (λ k. clash j i y x (omega (arith, no))) (cases_lt i j))
  where
    clash : (i j : ℕ) → Next p l g i → Next p l g j → ¬ (i < j)
    clash i j x y k = true≢false (sym (shares_self g) ∙ ap (λ e. shares e g) (sym x.same) ∙ ap (shares _) (sym y.same) ∙
        shares_at p.chart.wires (length p.first) l.places places (gate_number p i) (gate_number p j)
        (good.gates i x.front.listed).fitting (good.gates j y.front.listed).fitting (y.front.earliest i k x.front.is_open))

keeps_same : (p : Plan) (l : Log) → GoodPlan p → GoodPlaces p.chart.wires (length p.first) l.places →
    (t : Step) (s : ℕ) (a b : Log) → Keeps p l t s a → Keeps p l t s b → a ≡ b
keeps_same p l good places (gate g) s a b (i, x, e) (j, y, f) =
    e ∙ ap (λ n. logged p l (starting (gate g) s) l.places (set l.done n true)) (next_same p l good places g i j x y) ∙ sym f
keeps_same p l good places (swap c d) s a b e f = e ∙ sym f

-- a row that keeps all rules is kept
pub step_accepted : (p : Plan) (l : Log) (r : StepRow) (t : Step) → step_of p.chart.wires r ≡ Some t → joined p.chart t ≡ true →
    larger_free l.free t ≤ r.start → end p.chart (starting t r.start) ≤ 4294967295 → Ordered p l t → kept l < 262144 →
    Accepted (StepFits p l r)
step_accepted p l r t d c f e o k _ _ (bad_step x) = none_some (sym x ∙ d)
step_accepted p l r t d c f e o k _ _ (uncoupled t' x y) = true≢false (sym c ∙ ap (joined p.chart) (some_same (sym d ∙ x)) ∙ y)
step_accepted p l r t d c f e o k _ _ (busy t' x y) = let z = ap (larger_free l.free) (some_same (sym d ∙ x)) in omega arith
step_accepted p l r t d c f e o k _ _ (late t' x y) = let z = ap (λ a. end p.chart (starting a r.start)) (some_same (sym d ∙ x)) in omega arith
step_accepted p l r t d c f e o k _ _ (not_next t' x y) = y (subst (Ordered p l) (some_same (sym d ∙ x)) o)
step_accepted p l r t d c f e o k _ _ (full x) = omega arith

-- what the fresh log has, and every kept step leaves, holds of every log that can come about
module _ {ℓ} (p : Plan) (P : Log → Type ℓ) (step : (l : Log) (r : StepRow) (l' : Log) → Kept p l r l' → P l → P l') where
  along : (l : Log) (rows : List StepRow) (l' : Log) → AllKept p l rows l' → P l → P l'
  along l [] l' e h = subst P (sym e) h
  along l (r ∷ rs) l' (m, k, more) h = along m rs l' more (step l r m k h)

  pub by_steps : P (fresh p) → (l : Log) → Reached p l → P l
  by_steps h l reached = along (fresh p) reached.rows l reached.steps h

-- what every log keeps of its plan
record Sized (p : Plan) (l : Log) : Type 0 where
  places : GoodPlaces p.chart.wires (length p.first) l.places
  done : length l.done ≡ length p.gates
  free : length l.free ≡ p.chart.wires
  not_full : kept l ≤ 262144

fresh_sized : (p : Plan) → GoodPlan p → Sized p (fresh p)
fresh_sized p good = record { places = good.places; done = length-replicate _ false; free = length-replicate _ 0; not_full = omega arith }

freed_long : (free : List ℕ) (a b e : ℕ) → length (set (set free a e) b e) ≡ length free
freed_long free a b e = length-set _ b e ∙ length-set free a e

keeps_sized : (p : Plan) (l : Log) (t : Step) (s : ℕ) (l' : Log) → GoodStep p.chart.wires t → kept l < 262144 →
    Keeps p l t s l' → Sized p l → Sized p l'
keeps_sized p l (gate g) s l' good k (i, x, e) z = subst (Sized p) (sym e) record {
  places = z.places;
  done = length-set _ i true ∙ z.done;
  free = freed_long l.free _ _ _ ∙ z.free;
  not_full = simp length_push (omega arith);
}
keeps_sized p l (swap a b) s l' good k e z = subst (Sized p) (sym e) record {
  places = good_traded _ _ l.places z.places a b good;
  done = z.done;
  free = freed_long l.free a b _ ∙ z.free;
  not_full = simp length_push (omega arith);
}

pub kept_good : (p : Plan) (l : Log) (r : StepRow) (l' : Log) (k : Kept p l r l') → GoodStep p.chart.wires k.step
kept_good p l r l' k = step_of_good _ r k.step k.decoded

reached_sized : (p : Plan) (l : Log) → Reached p l → Sized p l
reached_sized p l reached = by_steps p (Sized p)
    (λ l r l' k z. keeps_sized p l k.step r.start l' (kept_good p l r l' k) (surely_le _ _ (λ no. k.accepted _ _ (full (omega (arith, no))))) k.keeps z)
    (fresh_sized p (laid_good p reached.plan)) l reached

pub reached_places : (p : Plan) (l : Log) → Reached p l → GoodPlaces p.chart.wires (length p.first) l.places
reached_places p l reached = (reached_sized p l reached).places

pub reached_lengths : (p : Plan) (l : Log) → Reached p l → (length l.done ≡ length p.gates) × (length l.free ≡ p.chart.wires)
reached_lengths p l reached = ((reached_sized p l reached).done, (reached_sized p l reached).free)

pub reached_not_full : (p : Plan) (l : Log) → Reached p l → kept l ≤ 262144
reached_not_full p l reached = (reached_sized p l reached).not_full

-- one log follows
pub kept_same : {p : Plan} {l : Log} {r : StepRow} {a b : Log} → Reached p l → Kept p l r a → Kept p l r b → a ≡ b
kept_same {p} {l} {r} {a} {b} reached x y =
    keeps_same p l (laid_good p reached.plan) (reached_places p l reached) x.step r.start a b x.keeps
    (subst (λ t. Keeps p l t r.start b) (some_same (sym y.decoded ∙ x.decoded)) y.keeps)

-- one row more at the end
kept_after : (p : Plan) (l : Log) (rows : List StepRow) (m : Log) (r : StepRow) (m' : Log) → AllKept p l rows m → Kept p m r m' → AllKept p l (rows ++ r ∷ []) m'
kept_after p l [] m r m' e k = (m', subst (λ l. Kept p l r m') e k, refl)
kept_after p l (s ∷ rs) m r m' (n, h, more) k = (n, h, kept_after p n rs m r m' more k)

pub reached_kept : {p : Plan} {l : Log} {r : StepRow} {l' : Log} → Reached p l → Kept p l r l' → Reached p l'
reached_kept {p} {l} {r} {l'} reached k = record {
  plan = reached.plan;
  rows = reached.rows ++ r ∷ [];
  steps = kept_after p (fresh p) reached.rows l r l' reached.steps k;
}

-- each kept row adds its step at the end
pub kept_adds : (p : Plan) (l : Log) (t : Step) (s : ℕ) (l' : Log) → Keeps p l t s l' → l'.steps ≡ l.steps ++ starting t s ∷ []
kept_adds p l (gate g) s l' (i, x, e) = ap (λ m. m.steps) e
kept_adds p l (swap a b) s l' e = ap (λ m. m.steps) e

kept_count : (p : Plan) (l : Log) (rows : List StepRow) (l' : Log) → AllKept p l rows l' → kept l' ≡ kept l + length rows
kept_count p l [] l' e = ap kept e ∙ omega arith
kept_count p l (r ∷ rs) l' (m, k, more) =
    let a = kept_count p m rs l' more in let b = ap length (kept_adds p l k.step r.start m k.keeps) ∙ length_push l.steps _ in omega arith

pub nothing_kept : (p : Plan) (l : Log) → Reached p l → l.steps ≡ [] → l ≡ fresh p
nothing_kept p l reached none = go reached.rows reached.steps
  where
    go : (rows : List StepRow) → AllKept p (fresh p) rows l → l ≡ fresh p
    go [] e = e
    go (r ∷ rs) all = let c = kept_count p (fresh p) (r ∷ rs) l all in let z = ap length none in absurd (omega arith)
