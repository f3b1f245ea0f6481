use Rattle.std.proofs.Common.{◌∙◌, arith}
use Rattle.chip.proofs.Reaching.{next_level, level_all_reached}
use Rattle.chip.proofs.reach.Reach.from.Goals as goal

pub loop-d-preserved : goal.loop-d-preserved
loop-d-preserved c =
    let e = c.if-not-round.ensures in
    let s = c.loop-d.reach.steps in
    let r = c.round.new.self.steps in (
      next_level c.args.couplings.now.rows c.requires.inside c.args.a c.loop-d.d s c.loop-d.invariant.0 r e.grown e.covered,
      omega (arith, e.changed, c.loop-d.invariant.1),
      e.grown.long ∙ c.loop-d.invariant.2,
    )

pub returns-then-not-round : goal.returns-then-not-round
returns-then-not-round c =
    let e = c.if-not-round.ensures in
    level_all_reached c.args.couplings.now.rows c.requires.inside c.args.a c.loop-d.d c.loop-d.reach.steps c.loop-d.invariant.0
    c.round.new.self.steps e.grown e.covered e.changed (omega arith)
