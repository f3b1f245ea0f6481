use mathlib.Core.Logic.{∥∥₁_map}
use Rattle.std.proofs.Common.{ℕ, suc, ◌+◌, true, set, ap, ◌∙◌, arith}
use Rattle.places.specs.Placing.{places_of}
use Rattle.sheet.specs.Sheets.{places_traded}
use Rattle.places.specs.declared.places.Places.{Places}
use Rattle.book.proofs.Steps.{by_sheet, first_in, second_in, few_wires, room_left, gate_in, wires_in, after_gate, after_exchange}
use Rattle.book.proofs.book.Book.keep.Goals as goal

pub lock-requires-clause-wires : goal.lock-requires-clause-wires
lock-requires-clause-wires c =
    let b = c.args.self.now in
    let v = c.in_ok-verdict.verdict in (
      by_sheet b (suc c.wires_of.result.0.0) 64 (λ l h. let a = c.in_ok-verdict.ensures.judges l h in
          omega (arith, first_in b l h c.args.step v a, few_wires b l h c.args.step v a, c.wires_of.ensures.0)),
      by_sheet b (suc c.wires_of.result.1.0) 64 (λ l h. let a = c.in_ok-verdict.ensures.judges l h in
          omega (arith, second_in b l h c.args.step v a, few_wires b l h c.args.step v a, c.wires_of.ensures.1)),
    )

pub lock-requires-clause-room : goal.lock-requires-clause-room
lock-requires-clause-room c =
    let b = c.args.self.now in
    by_sheet b (suc b.log.kept) 262144 (λ l h. room_left b l h c.args.step c.in_ok-verdict.verdict (c.in_ok-verdict.ensures.judges l h))

pub mark-requires : goal.mark-requires
mark-requires c =
    let b = c.args.self.now in
    record { gate = by_sheet b (suc c.in-Gate.i) 1024 (λ l h. gate_in b l h c.args.step c.in_ok-verdict.verdict (c.in_ok-verdict.ensures.judges l h) c.in-Gate.i c.in-Gate.is) }

pub trade-requires-clause-wires : goal.trade-requires-clause-wires
trade-requires-clause-wires c =
    let b = c.args.self.now in
    let e = c.lock.ensures in
    let w = ap (λ (s : Places). s.wires) e.rest.0 in (
      by_sheet b (suc c.in-Exchange.a.0) c.lock.new.self.places.wires (λ l h.
          omega (arith, w, (wires_in b l h c.args.step c.in_ok-verdict.verdict (c.in_ok-verdict.ensures.judges l h) c.in-Exchange.a c.in-Exchange.b c.in-Exchange.is).0)),
      by_sheet b (suc c.in-Exchange.b.0) c.lock.new.self.places.wires (λ l h.
          omega (arith, w, (wires_in b l h c.args.step c.in_ok-verdict.verdict (c.in_ok-verdict.ensures.judges l h) c.in-Exchange.a c.in-Exchange.b c.in-Exchange.is).1)),
    )

pub invariant_of-self : goal.invariant_of-self
invariant_of-self c =
    let b = c.args.self.now in
    let e = c.lock.ensures in
    let m = c.mark.ensures in
    let same = m.rest.0 ∙ e.rest.0 in
    record {
      wires = ap (λ (s : Places). s.wires) same ∙ b.wires;
      qubits = ap (λ (s : Places). s.qubits) same ∙ b.qubits;
      agrees = ∥∥₁_map b.agrees (λ x. let a = after_gate b x.0 x.1 c.args.step c.in_ok-verdict.verdict (c.in_ok-verdict.ensures.judges x.0 x.1)
          c.mark.new.self c.in-Gate.i c.in-Gate.is _ _ c.wires_of.ensures.0 c.wires_of.ensures.1
          (m.rest.1 ∙ e.free) (m.counts.0 ∙ e.counts.0) (m.counts.2 ∙ e.counts.1) (m.rest.0 ∙ e.rest.0) (m.done ∙ ap (λ ds. set ds c.in-Gate.i true) e.rest.1) (m.counts.1 ∙ e.rest.2) in (a.0, a.2));
    }

pub invariant_of-self-in-Exchange : goal.invariant_of-self-in-Exchange
invariant_of-self-in-Exchange c =
    let b = c.args.self.now in
    let e = c.lock.ensures in
    let m = c.trade.ensures in
    record {
      wires = m.size.wires ∙ ap (λ (s : Places). s.wires) e.rest.0 ∙ b.wires;
      qubits = m.size.qubits ∙ ap (λ (s : Places). s.qubits) e.rest.0 ∙ b.qubits;
      agrees = ∥∥₁_map b.agrees (λ x. let a = after_exchange b x.0 x.1 c.args.step c.in_ok-verdict.verdict (c.in_ok-verdict.ensures.judges x.0 x.1)
          c.trade.new.self c.in-Exchange.a c.in-Exchange.b c.in-Exchange.is _ _ c.wires_of.ensures.0 c.wires_of.ensures.1
          (m.rest.1 ∙ e.free) (m.counts.0 ∙ e.counts.0) (m.counts.2 ∙ e.counts.1) (m.places ∙ ap (λ (s : Places). places_traded c.in-Exchange.a.0 c.in-Exchange.b.0 (places_of s)) e.rest.0) (m.rest.0 ∙ e.rest.1) (m.counts.1 ∙ ap (λ (n : ℕ). n + 1) e.rest.2) in (a.0, a.2));
    }

pub returns-in-Gate-clause-keeps : goal.returns-in-Gate-clause-keeps
returns-in-Gate-clause-keeps c = λ l h.
    let b = c.args.self.now in
    let e = c.lock.ensures in
    let m = c.mark.ensures in
    let a = after_gate b l h c.args.step c.in_ok-verdict.verdict (c.in_ok-verdict.ensures.judges l h)
    c.mark.new.self c.in-Gate.i c.in-Gate.is _ _ c.wires_of.ensures.0 c.wires_of.ensures.1
    (m.rest.1 ∙ e.free) (m.counts.0 ∙ e.counts.0) (m.counts.2 ∙ e.counts.1) (m.rest.0 ∙ e.rest.0) (m.done ∙ ap (λ ds. set ds c.in-Gate.i true) e.rest.1) (m.counts.1 ∙ e.rest.2) in
    record { after = a.0; kept = a.1; decoded = (c.in_ok-verdict.ensures.judges l h).decoded; agrees = a.2 }

pub returns-in-Exchange-clause-keeps : goal.returns-in-Exchange-clause-keeps
returns-in-Exchange-clause-keeps c = λ l h.
    let b = c.args.self.now in
    let e = c.lock.ensures in
    let m = c.trade.ensures in
    let a = after_exchange b l h c.args.step c.in_ok-verdict.verdict (c.in_ok-verdict.ensures.judges l h)
    c.trade.new.self c.in-Exchange.a c.in-Exchange.b c.in-Exchange.is _ _ c.wires_of.ensures.0 c.wires_of.ensures.1
    (m.rest.1 ∙ e.free) (m.counts.0 ∙ e.counts.0) (m.counts.2 ∙ e.counts.1) (m.places ∙ ap (λ (s : Places). places_traded c.in-Exchange.a.0 c.in-Exchange.b.0 (places_of s)) e.rest.0) (m.rest.0 ∙ e.rest.1) (m.counts.1 ∙ ap (λ (n : ℕ). n + 1) e.rest.2) in
    record { after = a.0; kept = a.1; decoded = (c.in_ok-verdict.ensures.judges l h).decoded; agrees = a.2 }
