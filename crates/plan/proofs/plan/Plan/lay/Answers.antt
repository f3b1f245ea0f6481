use Rattle.std.proofs.Common.{arith}
use Rattle.std.proofs.lemmas.Result.{err_from_is_err_and}
use Rattle.plan.specs.Abilities.{known}
use Rattle.plan.specs.Laying.{layout}
use Rattle.plan.proofs.Laying.{turned_chip}
use Rattle.plan.proofs.Laid.{first_turned, circuit_turned, width_turned, kind_turned, all_accepted, plan_given, plan_laid}
use Rattle.plan.proofs.plan.Plan.lay.Goals as goal

pub returns-in_err-chip : goal.returns-in_err-chip
returns-in_err-chip c =
    let p = err_from_is_err_and c.from_residual.result c.from_residual.ensures.1 in
    let a = c.args.ability.now in
    let x = layout c.args.layout.chip.wires c.args.layout.chip.bytes.now c.args.layout.qubits c.args.layout.places.now c.args.layout.gates.now in
    rw (p.1, p.2) (turned_chip a.width (known a.kinds) x _ c.in_err-chip.ensures.answer)

pub returns-in_err-first : goal.returns-in_err-first
returns-in_err-first c =
    let p = err_from_is_err_and c.from_residual-in_err-first.result c.from_residual-in_err-first.ensures.1 in
    let chip = c.in_ok-chip.ensures.answer in
    rw (p.1, p.2) (first_turned c.args.ability.now c.args.layout.chip.wires c.args.layout.chip.bytes.now c.args.layout.qubits c.args.layout.places.now c.args.layout.gates.now
    c.in_ok-chip.chip chip.0 chip.1 _ c.in_err-first.ensures)

pub returns-in_err-circuit : goal.returns-in_err-circuit
returns-in_err-circuit c =
    let p = err_from_is_err_and c.from_residual-in_err-circuit.result c.from_residual-in_err-circuit.ensures.1 in
    let chip = c.in_ok-chip.ensures.answer in
    rw (p.1, p.2) (circuit_turned c.args.ability.now c.args.layout.chip.wires c.args.layout.chip.bytes.now c.args.layout.qubits c.args.layout.places.now c.args.layout.gates.now
    c.in_ok-chip.chip chip.0 chip.1 c.in_ok-first.first c.in_ok-first.ensures _ c.in_err-circuit.ensures)

pub returns-then-width-layout : goal.returns-then-width-layout
returns-then-width-layout c =
    let chip = c.in_ok-chip.ensures.answer in
    rw c.at.ensures (width_turned c.args.ability.now c.args.layout.chip.wires c.args.layout.chip.bytes.now c.args.layout.qubits c.args.layout.places.now c.args.layout.gates.now
    c.in_ok-chip.chip chip.0 chip.1 c.in_ok-first.first c.in_ok-first.ensures
    c.in_ok-circuit.circuit c.in_ok-circuit.ensures c.width-then-width-layout.result c.width-then-width-layout.ensures
    (omega (arith, c.width.ensures, c.width-then-width-layout.ensures, c.if-width-layout.true)))

pub returns-in-Some : goal.returns-in-Some
returns-in-Some c =
    let chip = c.in_ok-chip.ensures.answer in
    let u = c.in-Some.ensures in
    rw c.at-in-Some.ensures (kind_turned c.args.ability.now c.args.layout.chip.wires c.args.layout.chip.bytes.now c.args.layout.qubits c.args.layout.places.now c.args.layout.gates.now
    c.in_ok-chip.chip chip.0 chip.1 c.in_ok-first.first c.in_ok-first.ensures
    c.in_ok-circuit.circuit c.in_ok-circuit.ensures (omega (arith, c.width.ensures, c.if-width-layout.false))
    c.in-Some.i u.0 u.1 u.2)

pub invariant_of-result : goal.invariant_of-result
invariant_of-result c =
    let chip = c.in_ok-chip.ensures.answer in
    record {
      sized = c.in_ok-first.ensures.wires;
      laid = ∣ plan_laid c.args.ability.now c.args.layout.chip.wires c.args.layout.chip.bytes.now c.args.layout.qubits c.args.layout.places.now c.args.layout.gates.now
          c.in_ok-chip.chip chip.0 chip.1 c.in_ok-first.first c.in_ok-first.ensures
          c.in_ok-circuit.circuit c.in_ok-circuit.ensures
          (all_accepted c.args.ability.now c.args.layout.chip.wires c.args.layout.chip.bytes.now c.args.layout.qubits c.args.layout.places.now c.args.layout.gates.now
          c.in_ok-chip.chip chip.0 chip.1 c.in_ok-first.first c.in_ok-first.ensures
          c.in_ok-circuit.circuit c.in_ok-circuit.ensures (omega (arith, c.width.ensures, c.if-width-layout.false)) c.in_default.ensures) ∣₁;
    }

pub returns : goal.returns
returns c =
    let chip = c.in_ok-chip.ensures.answer in
    record {
      accepted = all_accepted c.args.ability.now c.args.layout.chip.wires c.args.layout.chip.bytes.now c.args.layout.qubits c.args.layout.places.now c.args.layout.gates.now
          c.in_ok-chip.chip chip.0 chip.1 c.in_ok-first.first c.in_ok-first.ensures
          c.in_ok-circuit.circuit c.in_ok-circuit.ensures (omega (arith, c.width.ensures, c.if-width-layout.false)) c.in_default.ensures;
      given = plan_given c.args.ability.now c.args.layout.chip.wires c.args.layout.chip.bytes.now c.args.layout.qubits c.args.layout.places.now c.args.layout.gates.now
          c.in_ok-chip.chip chip.0 chip.1 c.in_ok-first.first c.in_ok-first.ensures
          c.in_ok-circuit.circuit c.in_ok-circuit.ensures;
    }
