-- What the answers to all steps of a list are worth.
use Rattle.std.proofs.Common.{◌≡◌, ℕ, List, [], ◌∷◌, map, Some, None, Ok, Err, Option, Result, sym, refl, ◌∙◌, subst}
use lib.ListN.{length-map}
use Rattle.rows.specs.declared.row.Step.{Step as StepRow}
use Rattle.rows.specs.declared.refusal.Refusal.{Refusal}
use Rattle.rows.specs.declared.refusal.Fault.{Fault}
use Rattle.sheet.specs.Sheets.{Plan, Log, fresh, NoneOpen}
use Rattle.sheet.specs.Refusals.{ClearFits, still_open}
use Rattle.sheet.specs.Runs.{AllKept, Reached}
use Rattle.theory.specs.Laws.{FollowsCircuit}
use Rattle.theory.proofs.Sheets.{kept_same, reached_kept, nothing_kept}
use Rattle.theory.proofs.Standing.{stands_by_sheet}
use Rattle.theory.proofs.Clearing.{clears_alone}
use Rattle.plan.specs.declared.plan.Plan.{Plan as PlanValue}
use Rattle.plan.specs.Laying.{plan_in}
use Rattle.book.specs.declared.book.Book.{Book}
use Rattle.book.specs.declared.verdict.Counts.{Counts}
use Rattle.book.specs.Books.{Holds}
use Rattle.audit.specs.declared.trial.Trial.{Trial}
use Rattle.audit.specs.Audits.{AnswersOne, Answered, Plays, Clears, NoneRefused, IsClear, Audited}

abbrev pub steps_in : List Trial → List StepRow
steps_in xs = map (λ x. x.step) xs

-- where none was refused, all are kept in turn
all_kept : (p : Plan) (l : Log) (xs ys : List Trial) (l' : Log) → Answered p l xs ys l' → NoneRefused ys → AllKept p l (steps_in xs) l'
all_kept p l [] [] l' e n = e
all_kept p l [] (y ∷ ys) l' e n = absurd e
all_kept p l (x ∷ xs) [] l' e n = absurd e
all_kept p l (x ∷ xs) (y ∷ ys) l' (m, a, s, r) (n, ns) =
    (m, subst (λ (o : Option Fault). AnswersOne p l x.step o m) n a, all_kept p m xs ys l' r ns)

-- where all can be kept in turn, none was refused, and the log is theirs
pub none_refused : (p : Plan) (l : Log) → Reached p l → (xs ys : List Trial) (l' k : Log) → Answered p l xs ys l' → AllKept p l (steps_in xs) k → NoneRefused ys × (l' ≡ k)
none_refused p l reached [] [] l' k e a = (tt, e ∙ sym a)
none_refused p l reached [] (y ∷ ys) l' k e a = absurd e
none_refused p l reached (x ∷ xs) [] l' k e a = absurd e
none_refused p l reached (x ∷ xs) (y ∷ ys) l' k (m, o, s, r) (n, kept, more) =
    by (λ answered. none_refused p n (reached_kept reached kept) xs ys l' k answered more) y.answer refl o
  where
    by : (Answered p n xs ys l' → NoneRefused ys × (l' ≡ k)) → (o : Option Fault) → y.answer ≡ o → AnswersOne p l x.step o m → ((y.answer ≡ None) × NoneRefused ys) × (l' ≡ k)
    by later None e one =
        let same : m ≡ n = kept_same reached one kept in
        let rest = later (subst (λ (z : Log). Answered p z xs ys l') same r) in
        ((e, rest.0), rest.1)
    by later (Some f) e one = absurd (kept.accepted f.refusal f.place one.0.holds)

-- clear, and no gate open
clear_open : (p : Plan) (l : Log) (r : Result Counts Fault) → Clears p l r → IsClear r → NoneOpen p l
clear_open p l (Ok c) x y i h o = x.0 Refusal.Open i (still_open h o)
clear_open p l (Err f) x y i h o = absurd y

refuted : {p : Plan} {l : Log} {x : Refusal} {q : ℕ} → NoneOpen p l → ClearFits p l x q → ⊥
refuted none (still_open {i} h o) = none i h o

open_clear : (p : Plan) (l : Log) (r : Result Counts Fault) → Clears p l r → NoneOpen p l → IsClear r
open_clear p l (Ok c) x none = tt
open_clear p l (Err f) x none = refuted none x.holds

pub audited : (b : Book) (xs : List Trial) (b' : Book) (ys : List Trial) (r : Result Counts Fault) → Plays b xs b' ys →
    ((l : Log) → Holds b' l → Clears (plan_in b.plan) l r) → Audited b xs b' ys r
audited b xs b' ys r plays clears = record {
  follows = λ l h. subst (λ (q : PlanValue). FollowsCircuit (plan_in q) l) plays.plan (stands_by_sheet (plan_in b'.plan) l h.reached);
  decides = λ l h nothing ts rules few.
      let p = plan_in b.plan in
      let (l', answered, after) = plays.answers l h in
      let start : l ≡ fresh p = nothing_kept p l h.reached nothing in
      let law = clears_alone p h.reached.plan (steps_in xs) ts rules (rw length-map few) in (
        (λ x. law.0 (l', subst (λ (k : Log). AllKept p k (steps_in xs) l') start (all_kept p l xs ys l' answered x.0), clear_open p l' r (clears l' after) x.1)),
        (λ none. let (k, kept, shut) = law.1 none in
            let same = none_refused p l h.reached xs ys l' k answered (subst (λ (z : Log). AllKept p z (steps_in xs) k) (sym start) kept) in
            (same.0, open_clear p l' r (clears l' after) (subst (λ (z : Log). NoneOpen p z) (sym same.1) shut))),
      );
}
