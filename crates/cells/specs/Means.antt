-- The state of a table.
use Rattle.std.specs.Prelude.{Bool, ◌&&◌}
use Rattle.machine.specs.Local.{Cells}
use Rattle.cells.specs.Tables.{tabled}
use Rattle.cells.specs.declared.table.Table.{Table}

-- cells below the width; other wires have the blank cell. The sign is the table's own if the rule is signed, else plus
abbrev pub means_of : {L C : Type 0} → Bool → C → Table L C → Cells C
means_of signed blank s = tabled blank s.width.n s.cells (signed && s.minus)
