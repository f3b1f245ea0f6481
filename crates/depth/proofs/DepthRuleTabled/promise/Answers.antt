use Rattle.depth.proofs.Chained.{counts_chains}
use Rattle.depth.proofs.DepthRuleTabled.promise.Goals as goal

pub returns : goal.returns
returns c = record { always = tt; begun = counts_chains c.args._width.n c.args._width.ok }
