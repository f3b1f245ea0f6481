use Rattle.std.proofs.Common.{◌≡◌, length, sym, ◌∙◌, subst, arith}
use Rattle.std.proofs.lemmas.List.{take_at}
use Rattle.check_text.specs.Stepping.{ReadAs}
use Rattle.check_text.proofs.Judging.{all_offered}
use Rattle.check_text.proofs.whole.judge.Goals as goal

pub returns : goal.returns
returns c l h =
    let s = c.in_ok-trials.ensures in
    let long : length c.audit-cleared.new.trials ≡ c.in_ok-trials.trials.len = omega arith in
    all_offered c.args.book c.audit-cleared.new.book _ _ s.0 c.deref_mut.result.now c.audit-cleared.new.trials c.deref.result.now c.audit-cleared.result
    s.1 (subst (ReadAs s.0) (sym c.deref_mut.ensures.value) s.2) c.audit-cleared.ensures.plays c.audit-cleared.ensures.clears
    (c.deref.ensures.value ∙ take_at _ _ _ long) c.in_ok-out.ensures l h
