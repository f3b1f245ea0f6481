-- The state of Bits.
use Rattle.std.specs.Prelude.{Bool, false}
use Rattle.machine.specs.Local.{Cells}
use Rattle.cells.specs.declared.table.Table.{Table}
use Rattle.cells.specs.Means.{means_of}
use Rattle.bits.specs.declared.BitsRule.{BitsRule}

-- a table of bits
abbrev pub Bits : Type 0
Bits = Table BitsRule Bool

-- its state, always plus: the rule has no sign
abbrev pub bits_means : Bits → Cells Bool
bits_means s = means_of false false s
