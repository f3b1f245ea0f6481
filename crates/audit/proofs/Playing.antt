-- Steps offered one after the other, one step more.
use Rattle.std.proofs.Common.{◌≡◌, ℕ, ◌+◌, ◌<◌, ◌≤◌, List, [], ◌∷◌, ◌++◌, length, get_or, take, set, None, Option, refl, ap, ◌∙◌, subst, arith}
use Rattle.std.proofs.lemmas.List.{take_more, take_more_set, take_all, get_or-set_other, length-set}
use Rattle.rows.specs.declared.row.Step.{Step as StepRow}
use Rattle.rows.specs.declared.refusal.Fault.{Fault}
use Rattle.rows.specs.Steps.{step_row}
use Rattle.sheet.specs.Sheets.{Plan, Log}
use Rattle.plan.specs.Laying.{plan_in}
use Rattle.plan.specs.declared.plan.Plan.{Plan as PlanValue}
use Rattle.book.specs.declared.book.Book.{Book}
use Rattle.book.specs.Books.{Holds}
use Rattle.audit.specs.declared.trial.Trial.{Trial}
use Rattle.audit.specs.Audits.{AnswersOne, Answered, Plays}

abbrev pub blank : Trial
blank = record { step = step_row 0 0 0 0 0; answer = None }

-- the first i steps are answered, and the others are as before
pub record PlayedTo (b : Book) (xs : List Trial) (i : ℕ) (b' : Book) (ys : List Trial) : Type 0 where
  pub plan : b'.plan ≡ b.plan
  pub long : length ys ≡ length xs
  pub answers : (l : Log) → Holds b l → (m : Log) × Answered (plan_in b.plan) l (take i xs) (take i ys) m × Holds b' m
  pub rest : (k : ℕ) → i ≤ k → get_or ys k blank ≡ get_or xs k blank

pub played_none : (b : Book) (xs : List Trial) → PlayedTo b xs 0 b xs
played_none b xs = record { plan = refl; long = refl; answers = λ l h. (l, refl, h); rest = λ k h. refl }

answered_push : (p : Plan) (l : Log) (xs ys : List Trial) (m : Log) (x y : Trial) (m' : Log) → Answered p l xs ys m → AnswersOne p m x.step y.answer m' → y.step ≡ x.step →
    Answered p l (xs ++ x ∷ []) (ys ++ y ∷ []) m'
answered_push p l [] [] m x y m' e a s = (m', subst (λ (k : Log). AnswersOne p k x.step y.answer m') e a, s, refl)
answered_push p l [] (z ∷ ys) m x y m' e a s = absurd e
answered_push p l (z ∷ xs) [] m x y m' e a s = absurd e
answered_push p l (z ∷ xs) (w ∷ ys) m x y m' (k, o, q, r) a s = (k, o, q, answered_push p k xs ys m x y m' r a s)

module _ (b : Book) (xs : List Trial) (i : ℕ) (b₁ : Book) (ys : List Trial) (played : PlayedTo b xs i b₁ ys) (inside : i < length xs)
    (b₂ : Book) (r : StepRow) (a : Option Fault) (is : r ≡ (get_or ys i blank).step) (plan : b₂.plan ≡ b₁.plan)
    (answers : (l : Log) → Holds b₁ l → (m : Log) × AnswersOne (plan_in b₁.plan) l r a m × Holds b₂ m) where
  y : Trial
  y = record { step = r; answer = a }

  pub played_more : PlayedTo b xs (i + 1) b₂ (set ys i (record { step = r; answer = a }))
  unfolding y
  played_more = record {
    plan = plan ∙ played.plan;
    long = length-set ys i y ∙ played.long;
    answers = λ l h.
        let (m, before, holds) = played.answers l h in
        let (m', one, after) = answers m holds in
        let one' : AnswersOne (plan_in b.plan) m (get_or xs i blank).step a m' =
        subst (λ (s : StepRow). AnswersOne (plan_in b.plan) m s a m') (is ∙ ap (λ (t : Trial). t.step) (played.rest i (omega arith)))
        (subst (λ (q : PlanValue). AnswersOne (plan_in q) m r a m') played.plan one) in (
          m',
          rw (take_more xs i blank inside, take_more_set ys i y (omega (arith, played.long)))
              (answered_push (plan_in b.plan) l (take i xs) (take i ys) m (get_or xs i blank) y m' before one' (is ∙ ap (λ (t : Trial). t.step) (played.rest i (omega arith)))),
          after,
        );
    rest = λ k h. get_or-set_other ys i k y blank (λ e. omega arith) ∙ played.rest k (omega arith);
  }

pub played_all : (b : Book) (xs : List Trial) (i : ℕ) (b' : Book) (ys : List Trial) → PlayedTo b xs i b' ys → length xs ≤ i → Plays b xs b' ys
played_all b xs i b' ys played h = record {
  plan = played.plan;
  answers = λ l holds. let (m, x, y) = played.answers l holds in (
    m,
    subst (λ (zs : List Trial). Answered (plan_in b.plan) l zs ys m) (take_all i xs h)
        (subst (λ (zs : List Trial). Answered (plan_in b.plan) l (take i xs) zs m) (take_all i ys (omega (arith, played.long))) x),
    y,
  );
}
