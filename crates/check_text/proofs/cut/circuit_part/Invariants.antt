use Rattle.std.proofs.Common.{length}
use Rattle.check_text.proofs.Lines.{Passed}
use Rattle.check_text.proofs.cut.circuit_part.Given as goal

abbrev pub invariant-loop-rest : goal.invariant-loop-rest
invariant-loop-rest l = Passed l.input l.rest

abbrev pub decreases-loop-rest : goal.decreases-loop-rest
decreases-loop-rest l = length l.rest
