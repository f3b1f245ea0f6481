use Rattle.bits.proofs.ThreeCnots.{bits_true_cnot}
use Rattle.bits.proofs.BitsRuleTabled.promise.Goals as goal

pub returns : goal.returns
returns c = record { always = bits_true_cnot; begun = tt }
