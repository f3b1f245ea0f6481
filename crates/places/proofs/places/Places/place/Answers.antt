use Rattle.std.proofs.Common.{◌<◌, ◌≤◌, length, ◌∙◌, rules}
use Rattle.places.proofs.Tables.{Both}
use Rattle.places.proofs.Placing.{entry_left, one_more}
use Rattle.places.proofs.places.Places.place.Goals as goal

pub returns-clause-placed : goal.returns-clause-placed
returns-clause-placed c =
    let s = c.args.self.now in
    let both : Both s.wires s.at s.on = record { inside = s.inside; back = s.back; held = s.held; there = s.there } in
    let la : s.wires ≤ length s.at = search rules in
    let hw : c.args.wire.0 < s.wires = c.if-wire-self.false in (
      c.exchange.ensures.size.qubits,
      c.exchange.ensures.traded (both.inside s.qubits (entry_left s.wires s.qubits c.args.wire.0 s.at s.on both la hw c.if-entry-self.false)) hw
          ∙ one_more s.wires s.qubits c.args.wire.0 s.at s.on both la hw c.if-entry-self.false,
    )
