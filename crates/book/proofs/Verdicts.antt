-- Which refusal a step gets.
use Rattle.std.proofs.Common.{◌≡◌, ℕ, ◌<◌, ◌≤◌, true, Some, None, sym, refl, ap, ◌∙◌, subst, arith}
use Rattle.std.proofs.lemmas.Bool.{both_ways}
use Rattle.rows.specs.declared.row.Step.{Step as StepRow}
use Rattle.rows.specs.declared.refusal.Refusal.{Refusal}
use Rattle.rows.specs.declared.refusal.Fault.{Fault}
use Rattle.rows.specs.Numbers.{rank}
use Rattle.rows.specs.Refusals.{Turned}
use Rattle.rows.specs.Steps.{Step, step_of}
use Rattle.chip.specs.Charts.{joined}
use Rattle.sheet.specs.Sheets.{Plan, Log as SheetLog, kept, larger_free, starting, end, Ordered}
use Rattle.sheet.specs.Refusals.{StepFits, bad_step, uncoupled, busy, late, not_next, full}
use Rattle.theory.proofs.Rows.{none_some, some_same}

at_place : (l : SheetLog) (f : Fault) (x : Refusal) (n : ℕ) → f ≡ record { refusal = x; place = n } → kept l ≡ n → f ≡ record { refusal = x; place = kept l }
at_place l f x n e k = e ∙ ap (λ (m : ℕ). record { refusal = x; place = m }) (sym k)

module _ {p : Plan} {l : SheetLog} {r : StepRow} where
  -- every refusal of a step is at the number of kept steps
  at_kept : {x : Refusal} {q : ℕ} → StepFits p l r x q → q ≡ kept l
  at_kept (bad_step e) = refl
  at_kept (uncoupled t e h) = refl
  at_kept (busy t e h) = refl
  at_kept (late t e h) = refl
  at_kept (not_next t e h) = refl
  at_kept (full h) = refl

  step_ranks : {x : Refusal} {q : ℕ} → StepFits p l r x q → 16 ≤ rank x
  step_ranks (bad_step e) = omega arith
  step_ranks (uncoupled t e h) = omega arith
  step_ranks (busy t e h) = omega arith
  step_ranks (late t e h) = omega arith
  step_ranks (not_next t e h) = omega arith
  step_ranks (full h) = omega arith

  -- of the conditions below rank k none holds, if those are known not to hold
  none_below : (k : ℕ) (t : Step) → k ≤ 21 → step_of p.chart.wires r ≡ Some t → (18 ≤ k → joined p.chart t ≡ true) → (19 ≤ k → larger_free l.free t ≤ r.start) →
      (20 ≤ k → end p.chart (starting t r.start) ≤ 4294967295) → (21 ≤ k → Ordered p l t) → {x : Refusal} {q : ℕ} → StepFits p l r x q → rank x < k → ⊥
  none_below k t le d j i e o (bad_step n) h = none_some (sym n ∙ d)
  none_below k t le d j i e o (uncoupled t' d' n) h = both_ways (joined p.chart t) (ap (joined p.chart) (some_same (sym d ∙ d')) ∙ n) (j (omega arith))
  none_below k t le d j i e o (busy t' d' n) h =
      let f = i (omega arith) in let same : larger_free l.free t' ≡ larger_free l.free t = ap (larger_free l.free) (some_same (sym d' ∙ d)) in omega arith
  none_below k t le d j i e o (late t' d' n) h =
      let f = e (omega arith) in let same : end p.chart (starting t' r.start) ≡ end p.chart (starting t r.start) = ap (λ s. end p.chart (starting s r.start)) (some_same (sym d' ∙ d)) in omega arith
  none_below k t le d j i e o (not_next t' d' n) h = n (subst (λ (s : Step). Ordered p l s) (some_same (sym d ∙ d')) (o (omega arith)))
  none_below k t le d j i e o (full n) h = omega arith

  -- the shape is wrong
  pub turned_shape : (f : Fault) (n : ℕ) → f ≡ record { refusal = Refusal.BadStep; place = n } → kept l ≡ n → step_of p.chart.wires r ≡ None → Turned (StepFits p l r) f
  turned_shape f n e k d = subst (λ (g : Fault). Turned (StepFits p l r) g) (sym (at_place l f Refusal.BadStep n e k)) (record {
    holds = bad_step d;
    first = λ q h fit. let same = at_kept fit in omega arith;
    least = λ x q h fit. let low = step_ranks fit in omega arith;
  })

  -- the shape is right, and this condition is the first that holds
  pub turned_step : (t : Step) → step_of p.chart.wires r ≡ Some t → (x : Refusal) → rank x ≤ 21 → (f : Fault) (n : ℕ) → f ≡ record { refusal = x; place = n } → kept l ≡ n → StepFits p l r x (kept l) →
      (18 ≤ rank x → joined p.chart t ≡ true) → (19 ≤ rank x → larger_free l.free t ≤ r.start) →
      (20 ≤ rank x → end p.chart (starting t r.start) ≤ 4294967295) → (21 ≤ rank x → Ordered p l t) → Turned (StepFits p l r) f
  turned_step t d x le f n e k fit j i u o = subst (λ (g : Fault). Turned (StepFits p l r) g) (sym (at_place l f x n e k)) (record {
    holds = fit;
    first = λ q h other. let same = at_kept other in omega arith;
    least = λ y q h other. none_below (rank x) t le d j i u o other h;
  })
