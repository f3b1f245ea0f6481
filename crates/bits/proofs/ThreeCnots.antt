-- On two bits three cnots are an exchange.
use Rattle.std.proofs.Common.{◌≡◌, Bool, true, false, refl}
use Rattle.machine.specs.Machines.{HasTrueCnot}
use Rattle.machine.specs.Local.{differ, local}
use Rattle.machine.proofs.LocalLaws.{local_lawful}
use Rattle.machine.proofs.Crossing.{CrossesCells, crossing, first_added, second_added}
use Rattle.bits.specs.Flips.{bits_rule}

even : (m : Bool) → differ (differ (differ m false) false) false ≡ m
even true = refl
even false = refl

bits_cross : CrossesCells bits_rule
bits_cross t = λ i. record { here = first_added t.here t.there i; there = second_added t.here t.there i; minus = even t.minus i }

pub bits_true_cnot : HasTrueCnot (local bits_rule)
bits_true_cnot = record { lawful = local_lawful bits_rule; knows_cnot = λ u. refl; exchange = crossing bits_rule refl bits_cross }
