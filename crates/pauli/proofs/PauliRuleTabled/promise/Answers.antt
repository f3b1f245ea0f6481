use Rattle.pauli.proofs.Table.{conjugates}
use Rattle.pauli.proofs.ThreeCnots.{pauli_true_cnot}
use Rattle.pauli.proofs.PauliRuleTabled.promise.Goals as goal

pub returns : goal.returns
returns c = record { always = record { conjugates = conjugates; true_cnot = pauli_true_cnot }; begun = tt }
