-- What a Pauli machine of two wires reads, with its sign.
use Rattle.machine.specs.Local.{Cells, local}
use Rattle.pauli.specs.declared.Letter.{Letter}
use Rattle.pauli.specs.Letters.{pauli_rule}
use Rattle.machine_cases.specs.declared.Product.{Product}
use Rattle.machine_cases.specs.Cases.{readings}

abbrev pub the_product : Cells Letter → Product
the_product u = record { letters = readings (local pauli_rule) 2 u; minus = u.minus }
