use Rattle.std.proofs.Common.{◌≡◌, ℕ, Some, None, sym, ap, ◌∙◌, arith, length-set, below_more}
use Rattle.std.specs.Option.{option_map}
use Rattle.std.proofs.lemmas.Result.{err_from_is_err_and}
use Rattle.rows.specs.declared.refusal.Refusal.{Refusal}
use Rattle.rows.specs.Steps.{Gate, gate_at}
use Rattle.plan.proofs.Circuits.{gates_more, miswritten_at, miswritten_past, all_read}
use Rattle.plan.proofs.circuit.Circuit.of.Goals as goal

some_not_none : (g : Gate) → Some g ≡ None → ⊥
some_not_none g e = let z : ◌≡◌ {A = ℕ} 0 1 = cc in omega arith

pub returns-then-i-ge1024 : goal.returns-then-i-ge1024
returns-then-i-ge1024 c =
    let inv = c.loop-i.invariant in
    miswritten_past c.args.qubits c.args.rows.now (omega (arith, c.loop-i-test.true)) (λ j h. inv.3 j (omega arith)) _ c.at.ensures

pub returns-in_err-gates : goal.returns-in_err-gates
returns-in_err-gates c =
    let inv = c.loop-i.invariant in
    let p = err_from_is_err_and c.from_residual.result c.from_residual.ensures.1 in
    let none : c.decode.result ≡ None = grind arith in
    let f : c.in_err-gates.field-0.0 ≡ record { refusal = Refusal.BadGate; place = c.loop-i.i } = grind arith in
    rw (p.1, p.2) (miswritten_at c.args.qubits c.args.rows.now c.loop-i.i c.loop-i-test.true inv.1 inv.3 (sym c.decode.ensures ∙ ap (option_map gate_at) none) _ f)

pub loop-i-preserved : goal.loop-i-preserved
loop-i-preserved c =
    let inv = c.loop-i.invariant in
    let g = c.in_ok-gates.field-0 in
    let some : c.decode.result ≡ Some g = grind arith in
    let is = sym (ap (option_map gate_at) some) ∙ c.decode.ensures in (
      length-set c.loop-i.gates c.loop-i.i g ∙ inv.0,
      omega arith,
      gates_more c.args.qubits c.loop-i.gates c.args.rows.now c.loop-i.i g (omega arith) c.loop-i-test.true inv.2 is,
      below_more _ _ inv.3 (λ e. some_not_none (gate_at g) (is ∙ e)),
    )

pub returns : goal.returns
returns c =
    let inv = c.loop-i.invariant in
    all_read c.args.qubits c.args.rows.now _ c.loop-i.i (omega (arith, c.loop-i.auto.i-end)) inv.1 (omega (arith, c.loop-i.auto.i-end)) inv.2 inv.3
