-- The code, run on the worked cases.
use Rattle.std.proofs.Common.{◌≡◌, ℕ, true, List, [], ◌∷◌, Ok, Err, Result, sym, ◌∙◌, subst, MatchResult}
use Rattle.rows.specs.declared.kind.Kind.{Kind}
use Rattle.rows.specs.declared.place.Wire.{Wire}
use Rattle.rows.specs.declared.row.Gate.{Gate as GateRow}
use Rattle.rows.specs.declared.row.Step.{Step as StepRow}
use Rattle.rows.specs.declared.refusal.Fault.{Fault}
use Rattle.rows.specs.Refusals.{Accepted, Turned}
use Rattle.rows.specs.Steps.{gate_row}
use Rattle.chip.specs.Worked.{square_records}
use Rattle.sheet.specs.Sheets.{Plan, Log, unlaid, fresh}
use Rattle.sheet.specs.Refusals.{LayFits}
use Rattle.sheet.specs.Runs.{AllKept}
use Rattle.plan.specs.declared.ability.Ability.{Ability}
use Rattle.plan.specs.Abilities.{known}
use Rattle.plan.specs.Laying.{plan_in, layout, Fits, LaysPlan}
use Rattle.book.specs.declared.book.Book.{Book}
use Rattle.book.specs.declared.verdict.Counts.{Counts}
use Rattle.book.specs.Books.{Holds, tallied}
use Rattle.audit.specs.declared.trial.Trial.{Trial}
use Rattle.audit.specs.Audits.{Plays, Clears}
use Rattle.audit.proofs.Worth.{steps_in, none_refused}
use Rattle.book_cases.specs.Square.{given, plan, routed_rows, at_end}
use Rattle.book_cases.proofs.Square.{square_cases}

abbrev wires : List Wire
wires = record { 0 = 0 } ∷ record { 0 = 1 } ∷ record { 0 = 2 } ∷ record { 0 = 3 } ∷ []

abbrev rows : List GateRow
rows = gate_row 7 2 0 0 ∷ gate_row 9 0 3 0 ∷ []

-- the layout is accepted, so it is laid
pub laid_square : (a : Ability) → a.width ≡ 4 → ((κ : Kind) → known a.kinds κ ≡ true) → (r : Result Book Fault) →
    MatchResult r (λ b. LaysPlan a (layout 4 square_records 4 wires rows) b.plan × Holds b (fresh (plan_in b.plan))) (λ f. Turned (Fits a (layout 4 square_records 4 wires rows)) f) →
    MatchResult r (λ b. (plan_in b.plan ≡ plan) × Holds b (fresh plan)) (λ f. ⊥)
laid_square a w k (Ok b) (x, y) = (x.given, subst (λ (p : Plan). Holds b (fresh p)) x.given y)
laid_square a w k (Err f) t =
    let accepted : Accepted (LayFits a.width (known a.kinds) unlaid given) = subst (λ (n : ℕ). Accepted (LayFits n (known a.kinds) unlaid given)) (sym w)
    (let e : known a.kinds ≡ (λ κ. true) = λ i κ. k κ i in subst (λ q. Accepted (LayFits 4 q unlaid given)) (sym e) square_cases.laid) in
    accepted f.refusal f.place t.holds

-- its routed steps are kept, so the counts are theirs
module _ (b : Book) (same : plan_in b.plan ≡ plan) (h : Holds b (fresh plan)) (xs : List Trial) (steps : steps_in xs ≡ routed_rows)
    (b' : Book) (ys : List Trial) (plays : Plays b xs b' ys) where
  pub counted_square : (r : Result Counts Fault) → ((l : Log) → Holds b' l → Clears (plan_in b.plan) l r) →
      MatchResult r (λ c. tallied c ≡ record { gates = 2; kept = 3; exchanges = 1; last = 8 }) (λ f. ⊥)
  counted_square r clears =
      let (l', answered, after) = plays.answers (fresh plan) h in
      let kept : AllKept (plan_in b.plan) (fresh plan) (steps_in xs) at_end =
      subst (λ (p : Plan). AllKept p (fresh plan) (steps_in xs) at_end) (sym same) (subst (λ (rs : List StepRow). AllKept plan (fresh plan) rs at_end) (sym steps) square_cases.routed_kept) in
      let end = (none_refused (plan_in b.plan) (fresh plan) h.reached xs ys l' at_end answered kept).1 in
      by r (subst (λ (p : Plan). Clears p at_end r) same (subst (λ (l : Log). Clears (plan_in b.plan) l r) end (clears l' after)))
    where
      by : (r : Result Counts Fault) → Clears plan at_end r → MatchResult r (λ c. tallied c ≡ record { gates = 2; kept = 3; exchanges = 1; last = 8 }) (λ f. ⊥)
      by (Ok c) (a, e) = e ∙ square_cases.counted
      by (Err f) t = square_cases.cleared f.refusal f.place t.holds
