use Rattle.pauli.proofs.ThreeCnots.{pauli_true_cnot}
use Rattle.pauli.proofs.PauliRuleTrueLocal.cross.Goals as goal

pub returns : goal.returns
returns c = pauli_true_cnot
