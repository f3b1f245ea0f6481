use Rattle.std.proofs.Common.{arith, rules}
use Rattle.chip.proofs.Reading.{flag_set}
use Rattle.chip.proofs.couplings.Couplings.mark.Goals as goal

pub returns : goal.returns
returns c = flag_set c.args.self.now.rows c.args.a c.args.b (omega arith) (search rules)
