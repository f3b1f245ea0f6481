use Rattle.std.proofs.Common.{arith}
use Rattle.chip.proofs.Chips.{chip_distance}
use Rattle.chip.proofs.chip.Chip.distance.Goals as goal

pub returns-then-b-self : goal.returns-then-b-self
returns-then-b-self c =
    let s = c.args.self.now in (
      (omega arith, omega arith),
      chip_distance s c.args.a.0 c.args.b.0 (omega arith) (omega arith),
      s.near c.args.a.0 c.args.b.0 (omega arith, omega arith),
    )
