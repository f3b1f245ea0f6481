-- Steps offered one after the other, and what their answers are worth.
use Rattle.std.specs.Prelude.{◌≡◌, ◌≤◌, ◌↔◌, List, [], ◌∷◌, map, length, Some, None, Ok, Err, Option, Result}
use Rattle.rows.specs.declared.row.Step.{Step as StepRow}
use Rattle.rows.specs.declared.refusal.Fault.{Fault}
use Rattle.rows.specs.Refusals.{Accepted, Turned}
use Rattle.rows.specs.Steps.{Step}
use Rattle.sheet.specs.Sheets.{Plan, Log, fresh, tally}
use Rattle.sheet.specs.Refusals.{StepFits, ClearFits}
use Rattle.sheet.specs.Runs.{Kept}
use Rattle.theory.specs.Laws.{FollowsCircuit, InRules, NoneCanTell}
use Rattle.plan.specs.Laying.{plan_in}
use Rattle.book.specs.declared.book.Book.{Book}
use Rattle.book.specs.declared.verdict.Counts.{Counts}
use Rattle.book.specs.Books.{Holds, tallied}
use Rattle.audit.specs.declared.trial.Trial.{Trial}

-- the answer to one step row, and the log after it: it is kept, or refused and nothing changes
abbrev pub AnswersOne : Plan → Log → StepRow → Option Fault → Log → Type 0
AnswersOne p l r None m = Kept p l r m
AnswersOne p l r (Some f) m = Turned (StepFits p l r) f × (m ≡ l)

-- the answers to step rows one after the other, and the log after all of them
abbrev pub Answered : Plan → Log → List Trial → List Trial → Log → Type 0
Answered p l [] [] l' = l' ≡ l
Answered p l [] (y ∷ ys) l' = ⊥
Answered p l (x ∷ xs) [] l' = ⊥
Answered p l (x ∷ xs) (y ∷ ys) l' = (m : Log) × AnswersOne p l x.step y.answer m × (y.step ≡ x.step) × Answered p m xs ys l'

-- all steps are offered in turn: from any sheet that the book agrees with, these are the answers, and it agrees with the sheet after them
pub record Plays (b : Book) (xs : List Trial) (b' : Book) (ys : List Trial) : Type 0 where
  pub plan : b'.plan ≡ b.plan
  pub answers : (l : Log) → Holds b l → (l' : Log) × Answered (plan_in b.plan) l xs ys l' × Holds b' l'

-- what is counted of a plan without open gates; else the refusal at the lowest open gate
abbrev pub Clears : Plan → Log → Result Counts Fault → Type 0
Clears p l (Ok c) = Accepted (ClearFits p l) × (tallied c ≡ tally p l)
Clears p l (Err f) = Turned (ClearFits p l) f

-- no step was refused
abbrev pub NoneRefused : List Trial → Type 0
NoneRefused [] = Unit {0}
NoneRefused (y ∷ ys) = (y.answer ≡ None) × NoneRefused ys

abbrev pub IsClear : Result Counts Fault → Type 0
IsClear (Ok c) = Unit {0}
IsClear (Err f) = ⊥

-- What the answers are worth. These are statements on every lawful machine, whatever its states.
pub record Audited (b : Book) (xs : List Trial) (b' : Book) (ys : List Trial) (r : Result Counts Fault) : Type 1 where
  -- Whatever was refused: the kept steps do to every lawful machine what the done gates do in circuit order at their first
  -- places, followed by the kept exchanges alone.
  pub follows : (l : Log) → Holds b' l → FollowsCircuit (plan_in b.plan) l
  -- Steps in the rules of shape, coupling and clock, offered to a plan of which nothing is kept: none is refused and the plan
  -- is clear if and only if no lawful machine with the chip's wires that knows every kind, from whatever state, can tell the
  -- steps from the circuit at its first places followed by the steps' exchanges.
  pub decides : (l : Log) → Holds b l → l.steps ≡ [] → (ts : List Step) → InRules (plan_in b.plan).chart (fresh (plan_in b.plan)).free (map (λ x. x.step) xs) ts →
      length xs ≤ 262144 → ((NoneRefused ys × IsClear r) ↔ NoneCanTell (plan_in b.plan) ts)
