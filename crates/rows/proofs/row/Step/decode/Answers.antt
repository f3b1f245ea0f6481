use Rattle.std.proofs.Common.{cond, eqb, ◌&&◌, sym, ◌∙◌}
use Rattle.rows.specs.Steps.{pair_below, swap, when, as_step, formed}
use Rattle.rows.proofs.Results.{no_value}
use Rattle.rows.proofs.StepKinds.{no_code}
use Rattle.rows.proofs.row.Step.decode.Goals as goal

-- a row with no kind's code is no step
pub returns-in_err-kind : goal.returns-in_err-kind
returns-in_err-kind c = rw c.from_residual.ensures
    (no_value c.try_from.result _ _ _ (sym c.ok.ensures.value ∙ c.in_err-kind.was) c.try_from.ensures (λ e none.
    let row = c.args.self in
    let no = no_code row.kind none.0 in
    sym (λ i. cond (no.0 i) (when (eqb row.k 0 && pair_below c.args.wires row.first.0 row.second.0) (swap row.first.0 row.second.0))
    (as_step (formed c.args.wires (no.1 i) row.first.0 row.second.0 row.k)))))
