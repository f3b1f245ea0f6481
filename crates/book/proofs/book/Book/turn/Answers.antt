use Rattle.std.proofs.Common.{◌≡◌, ℕ, subst, arith}
use Rattle.rows.specs.declared.place.Wire.{Wire}
use Rattle.rows.specs.declared.row.Action.{Action}
use Rattle.rows.specs.Steps.{swap, step_at, gate_at}
use Rattle.plan.specs.declared.circuit.Circuit.{Circuit}
use Rattle.plan.specs.Circuits.{gates_in, NextOf}
use Rattle.book.proofs.Facts.{turn_none, turn_not}
use Rattle.book.proofs.book.Book.turn.Goals as goal

-- only an exchange is a swap
no_swap : (a : Action) → ((x y : Wire) → ¬ (a ≡ Action.Exchange x y)) → (x y : ℕ) → ¬ (step_at a ≡ swap x y)
no_swap (Action.Gate g) other x y e = let z : ◌≡◌ {A = ℕ} 0 1 = cc in omega arith
no_swap (Action.Exchange a b) other x y e = other a b (λ i. Action.Exchange a b)

pub returns-in_err-gate : goal.returns-in_err-gate
returns-in_err-gate c l h = rw c.from_residual.ensures
    (turn_none c.args.self.now l h (step_at c.args.action) (no_swap c.args.action c.in_default.not-Exchange) c.in_err-gate.ensures)

pub returns-in_err-i : goal.returns-in_err-i
returns-in_err-i c l h = rw c.from_residual-in_err-i.ensures
    (turn_not c.args.self.now l h (step_at c.args.action) c.in_ok-gate.gate c.in_ok-gate.ensures
    (subst (λ (x : Circuit). (i : ℕ) → ¬ NextOf (gates_in x) c.args.self.now.log.done (gate_at c.in_ok-gate.gate) i) c.circuit.ensures c.in_err-i.ensures))
