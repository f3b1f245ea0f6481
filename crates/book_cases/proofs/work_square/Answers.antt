use Rattle.std.proofs.Common.{[], ◌∷◌}
use Rattle.book_cases.proofs.Running.{counted_square}
use Rattle.book_cases.proofs.Square.{square_cases}
use Rattle.book_cases.proofs.work_square.Goals as goal

pub returns : goal.returns
returns c = record {
  cases = square_cases;
  counted = counted_square c.in_ok-book.book c.in_ok-book.ensures.0 c.in_ok-book.ensures.1 _
      (λ i. c.trial.ensures i ∷ c.trial-2.ensures i ∷ c.trial-3.ensures i ∷ []) _ _ c.audit.ensures.plays c.audit.result c.audit.ensures.clears;
}
