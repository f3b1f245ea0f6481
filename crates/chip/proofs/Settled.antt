-- What holds of every answer to a chip.
use Rattle.std.proofs.Common.{ℕ, List, Result}
use Rattle.rows.specs.declared.refusal.Fault.{Fault}
use Rattle.chip.specs.declared.chip.Chip.{Chip}
use Rattle.chip.specs.Chips.{ChipAnswer, MadeChip}
use Rattle.chip.proofs.Chips.{one_answer, results_good}
use Rattle.chip.proofs.Worked.{worked_chips}

pub made_chip : (n : ℕ) (bs : List ℕ) (r : Result Chip Fault) → ChipAnswer n bs r → MadeChip n bs r
made_chip n bs r h = record { answer = h; only = λ other k. one_answer n bs r other h k; good = results_good r; worked = worked_chips }
