use Rattle.std.proofs.Common.{sym, subst}
use Rattle.sheet.specs.Sheets.{fresh}
use Rattle.sheet.specs.Runs.{LaidPlan}
use Rattle.plan.specs.declared.plan.Plan.{Plan}
use Rattle.plan.specs.Laying.{plan_in, layout_in, LaysPlan}
use Rattle.plan.specs.Abilities.{known}
use Rattle.book.specs.Agreeing.{Agrees}
use Rattle.book.proofs.book.Book.lay.Goals as goal

pub returns : goal.returns
returns c =
    let x = c.in_ok-plan.ensures in
    let laid : LaidPlan (plan_in c.in_ok-plan.plan) = record {
      wide = c.args.ability.now.width;
      knows = known c.args.ability.now.kinds;
      layout = layout_in c.args.layout;
      accepted = x.accepted;
      given = x.given;
    } in (
      subst (λ (p : Plan). LaysPlan c.args.ability.now (layout_in c.args.layout) p) (sym c.fresh.ensures.plan) x,
      subst (λ (p : Plan). Agrees (plan_in p) c.fresh.result.log (fresh (plan_in p))) (sym c.fresh.ensures.plan) (subst (λ (p : Plan). Agrees (plan_in p) c.fresh.result.log (fresh (plan_in c.in_ok-plan.plan))) c.fresh.ensures.plan (c.fresh.ensures.log laid)),
    )
