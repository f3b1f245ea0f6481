use Rattle.std.proofs.Common.{subst, sym}
use Rattle.rows.specs.Refusals.{Turned}
use Rattle.lines.specs.Grammar.{gate_in}
use Rattle.lines.proofs.Judging.{is_twice}
use Rattle.lines.proofs.gate.GateLine.apart.Goals as goal

pub returns-then-is_doubled : goal.returns-then-is_doubled
returns-then-is_doubled c = subst (Turned _) (sym c.at.ensures) (is_twice _ _ _ _ (gate_in c.args.self.now.gate) c.args.self.now.writes c.requires c.if-is_doubled.ensures)
