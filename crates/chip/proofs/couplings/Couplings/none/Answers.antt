use Rattle.chip.proofs.Reading.{blank_table}
use Rattle.chip.proofs.couplings.Couplings.none.Goals as goal

pub returns : goal.returns
returns c = blank_table 64 64
