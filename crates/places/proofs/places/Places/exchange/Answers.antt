use Rattle.std.proofs.Common.{◌<◌, ◌≤◌, length, ap, ◌∙◌, arith, rules}
use Rattle.std.proofs.lemmas.List.Edits.{length-swap}
use Rattle.places.specs.declared.places.Places.{Places}
use Rattle.places.proofs.Tables.{Both, both_after, places_after}
use Rattle.places.proofs.places.Places.exchange.Goals as goal

both : (s : Places) → Both s.wires s.at s.on
both s = record { inside = s.inside; back = s.back; held = s.held; there = s.there }

pub invariant_of-self : goal.invariant_of-self
invariant_of-self c =
    let s = c.args.self.now in
    let a = c.args.a.0 in
    let b = c.args.b.0 in
    let ha : a < s.wires = c.if-a-self.false in
    let hb : b < s.wires = c.if-b-self.false in
    let la : s.wires ≤ length s.at = search rules in
    let lo : s.wires ≤ length s.on = search rules in
    let ea = c.trade.ensures.traded (omega (arith, s.held a ha)) (omega (arith, s.held b hb)) in
    let eo = c.trade-2.ensures.traded (omega arith) (omega arith) in
    let t = both_after s.wires s.at s.on _ _ a b (both s) la lo ha hb ea eo in
    record {
      few = s.few;
      enough = s.enough;
      inside = t.inside;
      back = t.back;
      held = t.held;
      there = t.there;
      long = ap length ea ∙ length-swap s.at _ _ ∙ s.long;
    }

pub returns-clause-traded : goal.returns-clause-traded
returns-clause-traded c = λ f g.
    let s = c.args.self.now in
    let a = c.args.a.0 in
    let b = c.args.b.0 in
    let la : s.wires ≤ length s.at = search rules in
    let lo : s.wires ≤ length s.on = search rules in
    let ea = c.trade.ensures.traded (omega (arith, s.held a f)) (omega (arith, s.held b g)) in
    let eo = c.trade-2.ensures.traded (omega arith) (omega arith) in
    places_after s.wires s.at s.on _ _ a b (both s) la lo f g ea eo s.qubits s.enough
