use Rattle.std.proofs.Common.{rules, tests}
use Rattle.std.proofs.lemmas.Iterator.{first_from_Range}
use Rattle.rows.specs.Steps.{gate_at}
use Rattle.plan.proofs.Searching.{Shares, Apart, first_shared}
use Rattle.plan.proofs.circuit.Circuit.first_sharing.Goals as goal

pub returns : goal.returns
returns c =
    let s = c.args.self.now in
    let done = c.args.done.now in
    let g = gate_at c.args.gate in
    first_shared s done g c.find.result
    (first_from_Range _ _ _ c.find.result (Shares s done g) (Apart s done g) c.find.ensures.ran (λ x q k. search (rules, tests)) (λ x q k. search (rules, tests)))
