use Rattle.std.proofs.Common.{subst, sym}
use Rattle.rows.specs.Refusals.{Turned}
use Rattle.lines.proofs.Judging.{is_unreadable}
use Rattle.lines.proofs.gate.gate_of.Goals as goal

pub returns-in_default : goal.returns-in_default
returns-in_default c = subst (Turned _) (sym c.at.ensures) (is_unreadable _ _ _ _ c.in_default.ensures)
