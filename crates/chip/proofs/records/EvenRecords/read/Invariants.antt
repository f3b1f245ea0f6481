use Rattle.chip.specs.Tables.{Read}
use Rattle.chip.proofs.records.EvenRecords.read.Given as goal

abbrev pub invariant-loop-i : goal.invariant-loop-i
invariant-loop-i l = Read l.self.records.wires l.self.records.bytes.now l.i l.draft.couplings.rows l.draft.durations
