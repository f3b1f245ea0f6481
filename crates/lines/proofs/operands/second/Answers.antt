use Rattle.std.proofs.Common.{arith}
use Rattle.lines.proofs.Decimal.{begins_same}
use Rattle.lines.proofs.OneGate.{after_begins}
use Rattle.lines.proofs.operands.second.Goals as goal

pub returns-in_err-k : goal.returns-in_err-k
returns-in_err-k c = rw c.from_residual-in_err-k.ensures (λ b k small suits is.
    c.in_err-k.ensures k suits (begins_same 9999 _ _ b _ _ (omega arith) c.in_ok-qubit.ensures
    (after_begins _ _ c.args.kind b k small c.in_ok-rest.ensures is)).1)
