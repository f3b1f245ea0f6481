-- What can refuse a step that routing makes: its end is too late, the log is full, or no row is left.
use Rattle.std.proofs.Common.{◌≡◌, ℕ, ◌<◌, ◌≤◌, cond, eqb, ◌⊎◌, sym, refl, ap, ◌∙◌, subst, inl, inr, ⊎_elim, arith}
use Rattle.std.proofs.lemmas.Bool.{both_ways, cases_lt}
use Rattle.rows.specs.declared.refusal.Refusal.{Refusal}
use Rattle.rows.specs.declared.refusal.Fault.{Fault}
use Rattle.rows.specs.Numbers.{rank}
use Rattle.rows.specs.Refusals.{Accepted, Turned}
use Rattle.rows.specs.Steps.{one, two, Step, gate, swap, Timed, written, row_of}
use Rattle.chip.specs.Charts.{joined}
use Rattle.sheet.specs.Sheets.{Plan, Log, kept, starting, end, larger_free, Ordered}
use Rattle.sheet.specs.Refusals.{bad_step, uncoupled, busy, late, not_next, full}
use Rattle.theory.proofs.Rows.{none_some, some_same}
use Rattle.routing.specs.Routing.{RouteFits, of_step, rows_out}
use Rattle.routing.specs.Laws.{RulesMet}

-- the row of a step has its start cycle
pub written_start : (t : Step) (s : ℕ) → (written t s).start ≡ s
written_start (gate (one κ k a)) s = refl
written_start (gate (two κ k a b)) s = refl
written_start (swap a b) s = refl

-- the three conditions that are left for a step that meets the rules
data Stops (p : Plan) (l : Log) (t : Timed) (left made : ℕ) : Refusal → ℕ → Type 0 where
  too_late : 4294967295 < end p.chart t → Stops p l t left made Refusal.Late (kept l)
  no_room : 262144 ≤ kept l → Stops p l t left made Refusal.Full (kept l)
  no_row : left ≡ 0 → Stops p l t left made Refusal.RowsOut made

module _ (p : Plan) (l : Log) (t : Timed) (rules : RulesMet p l t) (left made : ℕ) where
  abbrev r_end : (s : Step) → ℕ
  r_end s = end p.chart (starting s (row_of t).start)

  end_same : r_end t.step ≡ end p.chart t
  end_same = ap (λ s. end p.chart (starting t.step s)) (written_start t.step t.start)

  only : {n : Refusal} {q : ℕ} → RouteFits p l (row_of t) left made n q → Stops p l t left made n q
  only (of_step (bad_step e)) = absurd (none_some (sym e ∙ rules.shape))
  only (of_step (uncoupled s e h)) = absurd (both_ways _ (ap (joined p.chart) (some_same (sym rules.shape ∙ e)) ∙ h) rules.coupling)
  only (of_step (busy s e h)) =
      let a = ap (larger_free l.free) (some_same (sym rules.shape ∙ e)) in
      let b = written_start t.step t.start in let c = rules.clock in absurd (omega arith)
  only (of_step (late s e h)) = let a = ap r_end (some_same (sym rules.shape ∙ e)) in let b = end_same in too_late (omega arith)
  only (of_step (not_next s e h)) = absurd (h (subst (Ordered p l) (some_same (sym rules.shape ∙ e)) rules.order))
  only (of_step (full h)) = no_room h
  only (rows_out h) = no_row h

  -- every condition has one place
  stops_at : {n : Refusal} {q : ℕ} → Stops p l t left made n q → q ≡ cond (eqb (rank n) 22) made (kept l)
  stops_at (too_late h) = refl
  stops_at (no_room h) = refl
  stops_at (no_row h) = refl

  stops_from : {n : Refusal} {q : ℕ} → Stops p l t left made n q → (19 ≤ rank n) × (end p.chart t ≤ 4294967295 → 21 ≤ rank n) × (end p.chart t ≤ 4294967295 → kept l < 262144 → 22 ≤ rank n)
  stops_from (too_late h) = (omega arith, (λ k. absurd (omega arith)), (λ k m. absurd (omega arith)))
  stops_from (no_room h) = (omega arith, (λ k. omega arith), (λ k m. absurd (omega arith)))
  stops_from (no_row h) = (omega arith, (λ k. omega arith), (λ k m. omega arith))

  -- the first of the three that holds is answered, and a step without one is kept
  pub turned_late : 4294967295 < end p.chart t → Turned (RouteFits p l (row_of t) left made) (record { refusal = Refusal.Late; place = kept l })
  turned_late h = record {
    holds = let e = end_same in of_step (late t.step rules.shape (omega arith));
    first = λ q k fit. let e = stops_at (only fit) in omega arith;
    least = λ n q k fit. let e = (stops_from (only fit)).0 in omega arith;
  }

  pub turned_full : end p.chart t ≤ 4294967295 → 262144 ≤ kept l → Turned (RouteFits p l (row_of t) left made) (record { refusal = Refusal.Full; place = kept l })
  turned_full h m = record {
    holds = of_step (full m);
    first = λ q k fit. let e = stops_at (only fit) in omega arith;
    least = λ n q k fit. let e = (stops_from (only fit)).1 h in omega arith;
  }

  pub turned_rows : end p.chart t ≤ 4294967295 → kept l < 262144 → left ≡ 0 → Turned (RouteFits p l (row_of t) left made) (record { refusal = Refusal.RowsOut; place = made })
  turned_rows h m o = record {
    holds = rows_out o;
    first = λ q k fit. let e = stops_at (only fit) in omega arith;
    least = λ n q k fit. let e = (stops_from (only fit)).2 h m in omega arith;
  }

  pub made_accepted : end p.chart t ≤ 4294967295 → kept l < 262144 → 0 < left → Accepted (RouteFits p l (row_of t) left made)
  made_accepted h m o n q fit = go (only fit)
    where
      go : {n : Refusal} {q : ℕ} → ¬ Stops p l t left made n q
      go (too_late k) = omega arith
      go (no_room k) = omega arith
      go (no_row k) = omega arith

  -- the step is kept, or one refusal is answered
  pub verdict : Accepted (RouteFits p l (row_of t) left made) ⊎ ((f : Fault) × Turned (RouteFits p l (row_of t) left made) f)
  verdict = ⊎_elim
      (λ (h : 4294967295 < end p.chart t). inr (_, turned_late h))
      (λ (h : end p.chart t ≤ 4294967295). ⊎_elim
      (λ (m : kept l < 262144). ⊎_elim (λ (o : 0 < left). inl (made_accepted h m o)) (λ (o : left ≤ 0). inr (_, turned_rows h m (omega arith))) (cases_lt 0 left))
      (λ (m : 262144 ≤ kept l). inr (_, turned_full h m))
      (cases_lt (kept l) 262144))
      (cases_lt 4294967295 (end p.chart t))
