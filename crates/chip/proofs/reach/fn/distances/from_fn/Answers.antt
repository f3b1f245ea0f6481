use Rattle.chip.proofs.Reaching.{row_distances}
use Rattle.chip.proofs.reach.fn.distances.from_fn.Goals as goal

pub returns-then-a-n : goal.returns-then-a-n
returns-then-a-n c = λ _. row_distances _ _ _ _ c.from.ensures c.row.ensures
