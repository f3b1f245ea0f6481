-- On two letters and the sign three cnots are an exchange.
use Rattle.std.proofs.Common.{◌≡◌, Bool, not, ◌&&◌, refl, arith}
use Rattle.machine.specs.Machines.{HasTrueCnot}
use Rattle.machine.specs.Local.{differ, local}
use Rattle.machine.proofs.LocalLaws.{local_lawful}
use Rattle.machine.proofs.Crossing.{CrossesCells, crossing, first_added, second_added}
use Rattle.pauli.specs.Letters.{pauli_rule, letter}

-- the sign flips an even number of times
even : (a b c d m : Bool) →
    differ (differ (differ m (a && d && not (differ c b))) (differ c a && differ b d && not (differ a d)))
    (differ a (differ c a) && differ d (differ b d) && not (differ (differ c a) (differ b d))) ≡ m
even a b c d m = grind arith

pauli_cross : CrossesCells pauli_rule
pauli_cross t = λ i. record {
  here = letter (first_added t.here.x t.there.x i) (second_added t.there.z t.here.z i);
  there = letter (second_added t.here.x t.there.x i) (first_added t.there.z t.here.z i);
  minus = even t.here.x t.here.z t.there.x t.there.z t.minus i;
}

pub pauli_true_cnot : HasTrueCnot (local pauli_rule)
pauli_true_cnot = record { lawful = local_lawful pauli_rule; knows_cnot = λ u. refl; exchange = crossing pauli_rule refl pauli_cross }
