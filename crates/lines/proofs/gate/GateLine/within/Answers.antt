use Rattle.std.proofs.Common.{subst, sym}
use Rattle.rows.specs.Refusals.{Turned}
use Rattle.lines.specs.Grammar.{gate_in}
use Rattle.lines.proofs.Judging.{is_off}
use Rattle.lines.proofs.gate.GateLine.within.Goals as goal

pub returns : goal.returns
returns c = subst (Turned _) (sym c.at.ensures) (is_off _ _ _ _ (gate_in c.args.self.now.gate) c.args.self.now.writes c.if-is_within.ensures)
