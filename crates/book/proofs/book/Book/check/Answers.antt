use Rattle.plan.specs.Laying.{plan_in}
use Rattle.book.proofs.OneVerdict.{one_verdict}
use Rattle.book.proofs.book.Book.check.Goals as goal

pub returns-clause-only : goal.returns-clause-only
returns-clause-only c = λ l h other x. one_verdict (plan_in c.args.self.now.plan) l h.reached c.args.step other c.judge.result x (c.judge.ensures l h)
