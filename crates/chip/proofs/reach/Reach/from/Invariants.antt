use Rattle.std.proofs.Common.{◌≡◌, ◌<◌, length}
use Rattle.chip.specs.Tables.{size, Level}
use Rattle.chip.proofs.reach.Reach.from.Given as goal

abbrev pub invariant-loop-d : goal.invariant-loop-d
invariant-loop-d l = Level l.couplings.rows l.a l.d l.reach.steps × (l.d < size l.reach.steps) × (length l.reach.steps ≡ 64)
