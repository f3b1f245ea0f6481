use Rattle.chip.proofs.Settled.{made_chip}
use Rattle.chip.proofs.records.EvenRecords.chip.Goals as goal

pub returns : goal.returns
returns c = made_chip c.args.self.records.wires c.args.self.records.bytes.now c.build.result c.build.ensures
