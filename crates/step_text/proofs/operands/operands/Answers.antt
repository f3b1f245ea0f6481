use Rattle.std.proofs.Common.{length, refl, ap, false-eqb}
use Rattle.rows.specs.StepKinds.{step_code}
use Rattle.step_text.proofs.Lists.{after_first, after_second, after_k}
use Rattle.step_text.proofs.operands.operands.Goals as goal

pub returns-in_err-second : goal.returns-in_err-second
returns-in_err-second c = rw c.from_residual-in_err-second.ensures (λ a b k o.
    c.in_err-second.ensures b _ (after_first (step_code c.args.kind) _ _ c.is_double.ensures (refl) _ _ _ c.in_ok-first.ensures a b k o).1)

pub returns-in_err-k : goal.returns-in_err-k
returns-in_err-k c = rw c.from_residual-in_err-k.ensures (λ a b k o.
    c.in_err-k.ensures k _ (after_second (step_code c.args.kind) _ _ c.is_double.ensures c.has_k.ensures _ _ _ _ _ c.in_ok-first.ensures c.in_ok-second.ensures a b k o).1)

pub returns-else-is_empty : goal.returns-else-is_empty
returns-else-is_empty c a b k o =
    false-eqb _ 0 c.if-is_empty.ensures
    (ap length (after_k (step_code c.args.kind) _ _ c.is_double.ensures c.has_k.ensures _ _ _ _ _ _ _ c.in_ok-first.ensures c.in_ok-second.ensures c.in_ok-k.ensures a b k o).1)
