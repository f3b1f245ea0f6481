use Rattle.std.proofs.Common.{[], length, ap, false-eqb, arith}
use Rattle.lines.proofs.Decimal.{begins_same, whole}
use Rattle.lines.proofs.number.last_number.Goals as goal

pub returns-in_err-v : goal.returns-in_err-v
returns-in_err-v c = rw c.from_residual.ensures (λ v small e. c.in_err-v.ensures v [] (whole 9999 _ v (omega arith) e))

pub returns-else-is_empty : goal.returns-else-is_empty
returns-else-is_empty c v small e =
    false-eqb _ 0 c.if-is_empty.ensures (ap length (begins_same 9999 _ _ v _ [] (omega arith) c.in_ok-v.ensures (whole 9999 _ v (omega arith) e)).1)
