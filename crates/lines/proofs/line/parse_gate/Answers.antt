use Rattle.std.proofs.Common.{length, sym, ap, ◌∙◌, false-eqb}
use Rattle.lines.proofs.OneGate.{parts, single_tail, double_tail}
use Rattle.lines.proofs.line.parse_gate.Goals as goal

pub returns-in_err-other : goal.returns-in_err-other
returns-in_err-other c = rw c.from_residual-in_err-other.ensures (λ g w.
    let cut = parts _ _ _ _ _ g c.in_ok-kind.ensures c.in_ok-first.ensures w in
    let more = double_tail c.in_ok-kind.kind g (sym c.if-is_double.ensures) cut.0 w.writable in
    c.in_err-other.ensures more.0 more.1 more.2 more.3 (cut.2 ∙ more.4))

pub returns-else-is_empty : goal.returns-else-is_empty
returns-else-is_empty c g w =
    let cut = parts _ _ _ _ _ g c.in_ok-kind.ensures c.in_ok-first.ensures w in
    false-eqb _ 0 c.if-is_empty.ensures (ap length (cut.2 ∙ single_tail c.in_ok-kind.kind g (sym c.if-is_double.ensures) cut.0 w.writable))
