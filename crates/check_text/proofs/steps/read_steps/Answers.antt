use Rattle.std.proofs.Common.{ℕ, ◌+◌, List, subst}
use Rattle.text.specs.Reading.{lines, statements}
use Rattle.check_text.specs.Stepping.{AfterSteps}
use Rattle.check_text.proofs.steps.read_steps.Goals as goal

pub returns : goal.returns
returns c =
    let lexer = c.new-lexer.ensures in
    let rest = statements (c.find_steps.new.lexer.passed + 1) (lines c.find_steps.new.lexer.rest.now) in (
      rest,
      subst (λ (n : ℕ). AfterSteps (statements (n + 1) (lines c.args.input.now)) rest) lexer.1
          (subst (λ (t : List ℕ). AfterSteps (statements (c.new-lexer.result.passed + 1) (lines t)) rest) lexer.0 c.find_steps.ensures),
      c.read_all.ensures,
    )
