use Rattle.std.proofs.Common.{◌≡◌, ◌-◌, subst, arith}
use Rattle.text.specs.declared.lexer.Lexer.{Lexer}
use Rattle.text.specs.Lexing.{left, written}
use Rattle.text.specs.Steps.{Filled}
use Rattle.text.proofs.Reached.{reached_more, row_left, all_filled}
use Rattle.text.proofs.reader.read_gates.Goals as goal

pub bounds-table-count : goal.bounds-table-count
bounds-table-count c =
    let some : ¬ (c.args.room - c.loop-word.count ≡ 0) = row_left c.args.qubits _ (written c.in-Some.word) c.in_ok-table.ensures.0 in
    omega (arith, c.requires)

pub loop-word-preserved : goal.loop-word-preserved
loop-word-preserved c =
    let row = c.in_ok-table.ensures in
    reached_more c.args.qubits c.args.room _ _ _ _ c.loop-word.count c.args.table.now c.loop-word.table c.in-Some.ensures.steps.0 c.loop-word.invariant row.1.0 c.in_ok-table.field-0 row.0 row.1.1 row.1.2 c.requires

pub returns : goal.returns
returns c =
    subst (λ (s : Lexer). Filled c.args.qubits c.args.room (left s) c.loop-word.count c.args.table.now c.loop-word.table) c.into_iter-word-iterator.ensures.into_iter_gives
    (all_filled _ _ _ _ _ _ _ c.loop-word.invariant c.in-None.ensures.steps.0)
