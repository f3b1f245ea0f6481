use Rattle.std.proofs.Common.{◌≡◌, ℕ, ◌<◌, get_or, take}
use Rattle.cells.proofs.slices.fill_cells.Given as goal

abbrev pub invariant-loop-i : goal.invariant-loop-i
invariant-loop-i g l = (w : ℕ) → w < l.i → get_or l.table w g.L.Local.blank ≡ g.L.Local.made l.width.n (get_or (take l.width.n l.numbers) w 0)
