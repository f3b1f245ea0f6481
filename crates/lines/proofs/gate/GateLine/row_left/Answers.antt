use Rattle.std.proofs.Common.{subst, sym}
use Rattle.rows.specs.Refusals.{Turned}
use Rattle.lines.specs.Grammar.{gate_in}
use Rattle.lines.proofs.Judging.{is_no_row, is_accepted}
use Rattle.lines.proofs.gate.GateLine.row_left.Goals as goal

pub returns-then-self-eq0 : goal.returns-then-self-eq0
returns-then-self-eq0 c = subst (Turned _) (sym c.at.ensures) (is_no_row _ _ _ _ (gate_in c.args.self.now.gate) c.args.self.now.writes c.requires.within c.requires.apart c.if-self-eq0.true)

pub returns : goal.returns
returns c = is_accepted _ _ _ _ (gate_in c.args.self.now.gate) c.args.self.now.writes c.requires.within c.requires.apart c.if-self-eq0.false
