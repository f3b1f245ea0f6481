use Rattle.chains.proofs.Depths.{deep_from}
use Rattle.chains.proofs.deep.longest.Goals as goal

pub returns : goal.returns
returns c gs m some short = deep_from c.args.n gs _ c.greatest.result some short m.longest c.greatest.ensures
