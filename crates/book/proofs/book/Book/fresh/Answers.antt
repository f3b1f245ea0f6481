use Rattle.std.proofs.Common.{◌≡◌, ap, ◌∙◌}
use mathlib.Core.Logic.{∥∥₁_map}
use Rattle.places.specs.declared.places.Places.{Places}
use Rattle.sheet.specs.Sheets.{fresh}
use Rattle.plan.specs.Laying.{plan_in}
use Rattle.book.proofs.Facts.{fresh_agrees}
use Rattle.book.proofs.book.Book.fresh.Goals as goal

pub invariant_of-result : goal.invariant_of-result
invariant_of-result c =
    let e = c.fresh-log.ensures in
    let same : c.fresh-log.result.places ≡ c.args.plan.first = e.places ∙ c.first.ensures in
    record {
      wires = ap (λ (s : Places). s.wires) same;
      qubits = ap (λ (s : Places). s.qubits) same;
      agrees = ∥∥₁_map c.args.plan.laid (λ laid. (fresh (plan_in c.args.plan), fresh_agrees c.args.plan c.fresh-log.result laid same e.tables.0 e.tables.1 e.counts.0 e.counts.1 e.counts.2));
    }

pub returns-clause-log : goal.returns-clause-log
returns-clause-log c = λ laid.
    let e = c.fresh-log.ensures in
    fresh_agrees c.args.plan c.fresh-log.result laid (e.places ∙ c.first.ensures) e.tables.0 e.tables.1 e.counts.0 e.counts.1 e.counts.2
