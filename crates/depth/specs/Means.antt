-- The state of Depth.
use Rattle.std.specs.Prelude.{ℕ, false}
use Rattle.machine.specs.Local.{Cells}
use Rattle.cells.specs.declared.table.Table.{Table}
use Rattle.cells.specs.Means.{means_of}
use Rattle.depth.specs.declared.DepthRule.{DepthRule}

-- a table of counts
abbrev pub Depth : Type 0
Depth = Table DepthRule ℕ

-- its state, always plus: the rule has no sign
abbrev pub depth_means : Depth → Cells ℕ
depth_means s = means_of false 0 s
