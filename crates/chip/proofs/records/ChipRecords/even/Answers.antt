use Rattle.std.proofs.Common.{Err, arith}
use Rattle.std.proofs.lemmas.Grind.{common_steps}
use Rattle.chip.proofs.Refusing.{turned_7}
use Rattle.chip.proofs.Settled.{made_chip}
use Rattle.chip.proofs.records.ChipRecords.even.Goals as goal
use Rattle.chip.proofs.records.ChipRecords.even.Goals.{then-not-contains-via-then-not-contains, then-not-contains-via-else-not-contains+then-self-ne0}

pub returns-then-not-contains : goal.returns-then-not-contains
returns-then-not-contains c = rw c.at.ensures (made_chip c.args.self.wires c.args.self.bytes.now (Err _) (turned_7 c.args.self.wires c.args.self.bytes.now (λ e. elim c.then-not-contains.branch [
  | then-not-contains-via-then-not-contains w ↦ (let f = w.if-not-contains.ensures.cases in grind (arith, common_steps))
  | then-not-contains-via-else-not-contains+then-self-ne0 w ↦ omega arith
])))
