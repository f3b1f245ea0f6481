use Rattle.std.proofs.Common.{sym, ◌∙◌}
use Rattle.rows.proofs.Results.{no_value}
use Rattle.rows.proofs.StepKinds.{kind_at}
use Rattle.step_text.proofs.print.plain_kind.Goals as goal

pub returns-in_err-kind : goal.returns-in_err-kind
returns-in_err-kind c = rw c.from_residual.ensures (λ p.
    no_value c.try_from.result _ _ _ (sym c.ok.ensures.value ∙ c.in_err-kind.was) c.try_from.ensures
    (λ e none. let at = kind_at c.args.step.kind p.low p.high in none.0 at.0 at.1))
