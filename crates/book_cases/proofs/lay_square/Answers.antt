use Rattle.book_cases.proofs.Running.{laid_square}
use Rattle.book_cases.proofs.lay_square.Goals as goal

pub returns : goal.returns
returns c = laid_square c.all-ability.result c.all-ability.ensures.width c.all-ability.ensures.kinds c.lay.result c.lay.ensures
