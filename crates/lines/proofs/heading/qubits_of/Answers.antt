use Rattle.std.proofs.Common.{codes, sym, ◌∙◌, arith}
use Rattle.std.proofs.lemmas.List.{append_cancel_left}
use Rattle.lines.proofs.Decimal.{same_number}
use Rattle.lines.proofs.heading.qubits_of.Goals as goal

pub returns-else-n-ge1 : goal.returns-else-n-ge1
returns-else-n-ge1 c n h =
    let told = c.in_ok-n.ensures in
    let same = same_number c.in_ok-n.n n told.0 (omega (arith, h.few)) (sym told.1 ∙ append_cancel_left (codes "qubits ") _ _ (sym c.in_ok-rest.ensures ∙ h.is)) in
    omega (arith, c.else-n-ge1.either, h.some, h.few)
