use Rattle.std.proofs.Common.{◌∙◌}
use Rattle.check_text.proofs.Judging.{refused_so, judged_so}
use Rattle.check_text.proofs.whole.Case.judged.Goals as goal

pub returns-in-Ok : goal.returns-in-Ok
returns-in-Ok c gs e circuit =
    let laid = c.in-Ok.ensures in
    judged_so c.all-ability.result _ _ _ c.deref.result.now _ gs c.all-ability.ensures.width c.all-ability.ensures.kinds
    (c.deref.ensures.value ∙ c.in_ok-places.ensures) e _ circuit c.in-Ok.book laid.0 laid.1 _ c.judge.ensures

pub returns : goal.returns
returns c gs e circuit =
    refused_so c.all-ability.result _ _ _ c.deref.result.now _ gs c.all-ability.ensures.width c.all-ability.ensures.kinds
    (c.deref.ensures.value ∙ c.in_ok-places.ensures) e _ circuit c.in-Err.fault c.in-Err.ensures c.in_ok-format-in-Err.field-0 c.in_ok-format-in-Err.ensures.ok
