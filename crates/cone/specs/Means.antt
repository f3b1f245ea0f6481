-- The state of Cone.
use Rattle.std.specs.Prelude.{ℕ, false}
use Rattle.machine.specs.Local.{Cells}
use Rattle.cells.specs.declared.table.Table.{Table}
use Rattle.cells.specs.Means.{means_of}
use Rattle.cone.specs.declared.ConeRule.{ConeRule}

-- a table of sets
abbrev pub Cone : Type 0
Cone = Table ConeRule ℕ

-- its state, always plus: the rule has no sign
abbrev pub cone_means : Cone → Cells ℕ
cone_means s = means_of false 0 s
