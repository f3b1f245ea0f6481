use Rattle.std.specs.Int.{IsInRange}
use Rattle.lines.proofs.Runs.{longest}
use Rattle.lines.proofs.token.longest.Goals as goal

pub returns-then-n-gt0 : goal.returns-then-n-gt0
returns-then-n-gt0 c =
    let run = c.run-n.ensures in
    longest (IsInRange c.args.low c.args.high) _ _ _ _ run.within c.if-n-gt0.true run.all run.stops c.split_at.ensures.front c.split_at.ensures.back
