use Rattle.std.proofs.Common.{codes, sym, ◌∙◌, arith}
use Rattle.std.proofs.lemmas.List.{append_cancel_left}
use Rattle.lines.proofs.Decimal.{same_number}
use Rattle.lines.proofs.operands.turn.Goals as goal

pub returns-else-k-ge1 : goal.returns-else-k-ge1
returns-else-k-ge1 c k some few e =
    let read = c.in_ok-k.ensures in
    let same = same_number c.in_ok-k.k k read.0 (omega arith) (sym read.1 ∙ append_cancel_left (codes ",") _ _ (sym c.in_ok-rest.ensures ∙ e)) in
    omega (arith, c.else-k-ge1.either)
