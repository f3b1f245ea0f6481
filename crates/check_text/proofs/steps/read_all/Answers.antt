use Rattle.std.proofs.Common.{Ok, subst}
use Rattle.text.specs.declared.lexer.Lexer.{Lexer}
use Rattle.text.specs.Lexing.{left}
use Rattle.check_text.specs.Stepping.{ReadsAll}
use Rattle.check_text.proofs.Reading.{reached_all}
use Rattle.check_text.proofs.steps.read_all.Goals as goal

pub returns : goal.returns
returns c =
    subst (λ (s : Lexer). ReadsAll (left s) (Ok c.loop-word.trials)) c.into_iter-word-iterator.ensures.into_iter_gives
    (reached_all _ _ _ c.in-None.ensures.steps.0 c.loop-word.invariant)
