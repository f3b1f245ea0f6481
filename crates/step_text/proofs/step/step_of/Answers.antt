use Rattle.step_text.proofs.OneRow.{no_name, after_named, one_row}
use Rattle.step_text.proofs.step.step_of.Goals as goal

pub returns-in_err-kind : goal.returns-in_err-kind
returns-in_err-kind c = record {
  reads = rw c.from_residual-in_err-kind.ensures (λ row w. let at = no_name _ _ _ c.in_ok-start.ensures row w in c.in_err-kind.ensures at.0 _ at.1);
  only = one_row c.args.line.now;
}

pub returns-in_err-first : goal.returns-in_err-first
returns-in_err-first c = record {
  reads = rw c.from_residual-in_err-first.ensures (λ row w.
      c.in_err-first.ensures _ _ _ (after_named _ _ _ c.in_ok-kind.kind _ c.in_ok-start.ensures c.in_ok-kind.ensures row w).2);
  only = one_row c.args.line.now;
}

pub returns-clause-only : goal.returns-clause-only
returns-clause-only c = one_row c.args.line.now
