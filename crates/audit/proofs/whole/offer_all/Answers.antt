use Rattle.std.proofs.Common.{refl}
use Rattle.audit.proofs.Playing.{played_none, played_more, played_all}
use Rattle.audit.proofs.whole.offer_all.Goals as goal

pub loop-trial-init : goal.loop-trial-init
loop-trial-init c = played_none _ _

pub loop-trial-preserved : goal.loop-trial-preserved
loop-trial-preserved c =
    played_more c.args.book.now c.args.trials.now c.loop-trial.trial-index c.loop-trial.book c.loop-trial.trials c.loop-trial.invariant c.loop-trial-test.true
    c.offer-trial.new.book _ c.offer-trial.result refl c.offer-trial.ensures.plan c.offer-trial.ensures.answers

pub returns : goal.returns
returns c = record { plays = played_all _ _ c.loop-trial.trial-index _ _ c.loop-trial.invariant c.loop-trial-test.false }
