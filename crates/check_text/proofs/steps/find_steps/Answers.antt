use Rattle.std.proofs.Common.{rules}
use borrow.Author.Tests.{tests}
use Rattle.check_text.proofs.Reading.{found}
use Rattle.check_text.proofs.steps.find_steps.Goals as goal

pub returns : goal.returns
returns c =
    let ran = c.find.ensures.ran in
    found _ (λ f x b q k. search (rules, tests)) ran.0 _ ran.1 _ _ _ _ ran.2.1 ran.2.2 ran.3 ran.4
