-- The state of Pauli.
use Rattle.std.specs.Prelude.{true, false}
use Rattle.machine.specs.Local.{Cells}
use Rattle.cells.specs.declared.table.Table.{Table}
use Rattle.cells.specs.Means.{means_of}
use Rattle.pauli.specs.declared.Letter.{Letter}
use Rattle.pauli.specs.declared.PauliRule.{PauliRule}
use Rattle.pauli.specs.Letters.{letter}

-- a table of letters
abbrev pub Pauli : Type 0
Pauli = Table PauliRule Letter

-- its state, with the table's sign
abbrev pub pauli_means : Pauli → Cells Letter
pauli_means s = means_of true (letter false false) s
