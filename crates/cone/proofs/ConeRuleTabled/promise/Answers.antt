use Rattle.cone.proofs.Chained.{causal}
use Rattle.cone.proofs.ConeRuleTabled.promise.Goals as goal

pub returns : goal.returns
returns c = record { always = tt; begun = causal c.args._width.n c.args._width.ok }
