use Rattle.audit.proofs.Playing.{PlayedTo}
use Rattle.audit.proofs.whole.offer_all.Given as goal

abbrev pub invariant-loop-trial : goal.invariant-loop-trial
invariant-loop-trial l = PlayedTo l.initial.book l.initial.trials l.trial-index l.book l.trials
