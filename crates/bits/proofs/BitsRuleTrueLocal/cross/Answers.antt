use Rattle.bits.proofs.ThreeCnots.{bits_true_cnot}
use Rattle.bits.proofs.BitsRuleTrueLocal.cross.Goals as goal

pub returns : goal.returns
returns c = bits_true_cnot
