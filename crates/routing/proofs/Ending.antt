-- Routing comes to an end, and to one outcome alone; every step it makes is kept.
use Rattle.std.proofs.Common.{◌≡◌, ℕ, zero, suc, pred, List, [], ◌∷◌, Some, None, Option, sym, refl, ap, ◌∙◌, subst, ap₂, ⊎_elim}
use Rattle.rows.specs.declared.refusal.Fault.{Fault}
use Rattle.rows.specs.Refusals.{Accepted, Turned}
use Rattle.rows.specs.Steps.{Step, gate, swap, Timed, row_of}
use Rattle.rows.proofs.OneRefusal.{turned_same}
use Rattle.chip.specs.Charts.{GoodChart}
use Rattle.sheet.specs.Sheets.{Plan, Log, Ordered, Keeps}
use Rattle.sheet.specs.Runs.{Kept, Reached}
use Rattle.theory.proofs.Sheets.{reached_kept, kept_same}
use Rattle.routing.specs.Routing.{Makes, in_a_row, RouteFits, of_step, rows_out, Ends, Routed}
use Rattle.routing.specs.Laws.{RulesMet, Outcome, RoutesOnce}
use Rattle.routing.proofs.Fronts.{open_decided}
use Rattle.routing.proofs.Making.{makes_same, none_made, one_step, meets_rules}
use Rattle.routing.proofs.Refusing.{written_start, verdict}

-- a log follows a step that keeps the order
some_next : (p : Plan) (l : Log) (t : Step) (s : ℕ) → Ordered p l t → (u : Log) × Keeps p l t s u
some_next p l (gate g) s (i, n) = (_, (i, n, refl))
some_next p l (swap a b) s o = (_, refl)

-- a step made and not refused is kept
pub made_kept : {p : Plan} {l : Log} {t : Timed} {left made : ℕ} {u : Log} → RulesMet p l t → Accepted (RouteFits p l (row_of t) left made) →
    Keeps p l t.step t.start u → Kept p l (row_of t) u
made_kept {p} {l} {t} {u = u} rules ok k = record {
  accepted = λ n q f. ok n q (of_step f);
  step = t.step;
  decoded = rules.shape;
  keeps = subst (λ s. Keeps p l t.step s u) (sym (written_start t.step t.start)) k;
}

module _ (p : Plan) (chip : GoodChart p.chart) where
  -- the log after a step that routing makes can come about
  pub made_reached : (l : Log) → Reached p l → (left made swaps : ℕ) (t : Timed) (u : Log) → Makes p l swaps t →
      Accepted (RouteFits p l (row_of t) left made) → Keeps p l t.step t.start u → Reached p u
  made_reached l reached left made swaps t u m ok k = reached_kept reached (made_kept (meets_rules p l reached chip swaps t m) ok k)

  -- ONE OUTCOME AT MOST

  ends_same : (l : Log) (left made swaps : ℕ) (e e' : Option Fault) → Ends p l left made swaps e → Ends p l left made swaps e' → e ≡ e'
  ends_same l left made swaps None None x y = refl
  ends_same l left made swaps None (Some g) x (t, m, _) = absurd (none_made p l x swaps t m)
  ends_same l left made swaps (Some f) None (t, m, _) y = absurd (none_made p l y swaps t m)
  ends_same l left made swaps (Some f) (Some g) (t, m, x) (u, n, y) =
      ap Some (turned_same (RouteFits p l (row_of t) left made) f g x
      (subst (λ t. Turned (RouteFits p l (row_of t) left made) g) (makes_same p l swaps u t n m) y))

  -- routing does not end where it goes on
  ends_not : (l : Log) (left made swaps : ℕ) (e : Option Fault) (t : Timed) → Ends p l left made swaps e → Makes p l swaps t → ¬ Accepted (RouteFits p l (row_of t) left made)
  ends_not l left made swaps None t x m ok = none_made p l x swaps t m
  ends_not l left made swaps (Some f) t (u, n, x) m ok =
      ok _ _ (subst (λ t. Turned (RouteFits p l (row_of t) left made) f) (makes_same p l swaps u t n m) x).holds

  pub outcome_same : (l : Log) → Reached p l → (left made swaps : ℕ) (ts us : List Timed) (m n : Log) (e f : Option Fault) →
      Routed p l left made swaps ts m e → Routed p l left made swaps us n f → (ts ≡ us) × (m ≡ n) × (e ≡ f)
  outcome_same l reached left made swaps [] [] m n e f (a, x) (b, y) = (refl, a ∙ sym b, ends_same l left made swaps e f x y)
  outcome_same l reached left made swaps [] (u ∷ us) m n e f (a, x) (y, ok, _) = absurd (ends_not l left made swaps e u x y ok)
  outcome_same l reached left made swaps (t ∷ ts) [] m n e f (x, ok, _) (b, y) = absurd (ends_not l left made swaps f t y x ok)
  outcome_same l reached left made swaps (t ∷ ts) (u ∷ us) m n e f (x, ok, (v, k, more)) (y, ok', rest) =
      let same = makes_same p l swaps t u x y in
      let (w, k', more') = subst (λ u. (w : Log) × Keeps p l u.step u.start w × Routed p w (pred left) (suc made) (in_a_row swaps u.step) us n f) (sym same) rest in
      let rules = meets_rules p l reached chip swaps t x in
      let next : v ≡ w = kept_same reached (made_kept rules ok k) (made_kept rules ok k') in
      let (a, b, c) = outcome_same v (made_reached l reached left made swaps t v x ok k) (pred left) (suc made) (in_a_row swaps t.step) ts us m n e f more
      (subst (λ w. Routed p w (pred left) (suc made) (in_a_row swaps t.step) us n f) (sym next) more') in
      (ap₂ ◌∷◌ same a, b, c)

  -- AN END

  abbrev ComesTo : Log → ℕ → ℕ → ℕ → Type 0
  ComesTo l left made swaps = (o : Outcome) × Routed p l left made swaps o.steps o.log o.refused

  -- it ends here, or goes on with a step that is not refused
  here_or_on : (l : Log) → Reached p l → (left made swaps : ℕ) →
      ((t : Timed) → Makes p l swaps t → Accepted (RouteFits p l (row_of t) left made) → ComesTo l left made swaps) → ComesTo l left made swaps
  here_or_on l reached left made swaps on = ⊎_elim
      (λ (i, h, o). let (t, m, _) = (one_step p l reached chip swaps).while_open i h o in ⊎_elim
      (λ (ok : Accepted (RouteFits p l (row_of t) left made)). on t m ok)
      (λ (f, x). (record { steps = []; log = l; refused = Some f }, (refl, (t, m, x))))
      (verdict p l t (meets_rules p l reached chip swaps t m) left made))
      (λ n. (record { steps = []; log = l; refused = None }, (refl, λ i h o. n (i, h, o))))
      (open_decided p l)

  comes_to : (left : ℕ) (l : Log) → Reached p l → (made swaps : ℕ) → ComesTo l left made swaps
  comes_to zero l reached made swaps = here_or_on l reached zero made swaps (λ t m ok. absurd (ok _ _ (rows_out refl)))
  comes_to (suc left) l reached made swaps = here_or_on l reached (suc left) made swaps (go (comes_to left))
    where
      go : ((l : Log) → Reached p l → (made swaps : ℕ) → ComesTo l left made swaps) →
          (t : Timed) → Makes p l swaps t → Accepted (RouteFits p l (row_of t) (suc left) made) → ComesTo l (suc left) made swaps
      go rec t m ok =
          let (u, k) = some_next p l t.step t.start (meets_rules p l reached chip swaps t m).order in
          let (o, r) = rec u (made_reached l reached (suc left) made swaps t u m ok k) (suc made) (in_a_row swaps t.step) in
          (record { steps = t ∷ o.steps; log = o.log; refused = o.refused }, (m, ok, (u, k, r)))

pub routes_once : (p : Plan) (l : Log) → Reached p l → GoodChart p.chart → (left made swaps : ℕ) → RoutesOnce p l left made swaps
routes_once p l reached chip left made swaps =
    let (o, r) = comes_to p chip left l reached made swaps in (
      o,
      r,
      λ u s.
          let (a, b, c) = outcome_same p chip l reached left made swaps u.steps o.steps u.log o.log u.refused o.refused s r in
          λ i. record { steps = a i; log = b i; refused = c i },
    )
