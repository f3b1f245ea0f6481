use Rattle.std.proofs.Common.{length, refl, ap, ◌∙◌}
use Rattle.plan.specs.declared.circuit.Circuit.{Circuit}
use Rattle.plan.specs.Circuits.{gates_in}
use Rattle.plan.specs.Laying.{plan_in}
use Rattle.book.proofs.Shown.{turned_open, clear_counts}
use Rattle.book.proofs.book.Book.clear.Goals as goal

pub returns-in-Some : goal.returns-in-Some
returns-in-Some c l h = rw c.at.ensures (turned_open (plan_in c.args.self.now.plan) l c.in-Some.i (c.in-Some.ensures l h))

pub returns : goal.returns
returns c l h =
    let n = c.count.ensures.count ∙ ap (λ (x : Circuit). length (gates_in x)) c.circuit.ensures in
    clear_counts c.args.self.now l h _ (c.in_default.ensures l h) n refl refl refl
