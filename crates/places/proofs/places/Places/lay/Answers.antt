use Rattle.std.proofs.Common.{sym, ◌∙◌, arith}
use Rattle.std.proofs.lemmas.Grind.{common_steps}
use lib.ListN.{length-map}
use Rattle.places.proofs.Placing.{misplaced_first, misplaced_after}
use Rattle.places.proofs.places.Places.lay.Goals as goal

pub returns-then-not-contains : goal.returns-then-not-contains
returns-then-not-contains c = rw c.at.ensures (misplaced_first _ _ _ (λ k. let f = c.if-not-contains.ensures.cases in grind (arith, common_steps)))

pub returns-then-places-qubits : goal.returns-then-places-qubits
returns-then-places-qubits c =
    rw c.at-then-places-qubits.ensures (misplaced_after _ _ _ (let f = c.if-not-contains.ensures.cases in record { some_qubit = grind (arith, common_steps); not_many = grind (arith, common_steps) })
    (λ e. c.if-places-qubits.true (sym (length-map c.args.places.now _) ∙ e)))
