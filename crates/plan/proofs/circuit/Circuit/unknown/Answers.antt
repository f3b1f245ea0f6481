use Rattle.std.proofs.Common.{◌≡◌, true, false, take, rules, tests}
use Rattle.std.proofs.lemmas.Iterator.{IsFirst-from_position, YieldsList-from_slice}
use Rattle.rows.specs.Steps.{Gate, kind_of, gate_at}
use Rattle.plan.specs.Abilities.{known}
use Rattle.plan.proofs.Circuits.{first_gate}
use Rattle.plan.proofs.circuit.Circuit.unknown.Goals as goal

pub returns : goal.returns
returns c =
    let s = c.args.self.now in
    let ks = c.args.ability.now.kinds in
    let Yes : Gate → Type 0 = λ g. known ks (kind_of g) ≡ false in
    let No : Gate → Type 0 = λ g. known ks (kind_of g) ≡ true in
    first_gate Yes No (take s.count s.gates) c.position.result (IsFirst-from_position _ _ c.position.result (λ o. Yes (gate_at o)) (λ o. No (gate_at o)) c.position.ensures.ran
    (YieldsList-from_slice (take s.count s.gates) c.iter.ensures.rest) (λ x q k. search (rules, tests)) (λ x q k. search (rules, tests)))
