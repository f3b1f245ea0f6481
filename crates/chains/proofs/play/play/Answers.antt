use Rattle.std.proofs.Common.{map, ap, ◌∙◌, arith}
use Rattle.std.proofs.lemmas.List.{take_all}
use Rattle.rows.specs.declared.kind.Kind.{Kind}
use Rattle.rows.specs.Steps.{gate, one}
use Rattle.machine.specs.Machines.{run}
use Rattle.chains.proofs.Playing.{decoded_at, decoded_length, run_more}
use Rattle.chains.proofs.play.play.Goals as goal

pub loop-row-preserved : goal.loop-row-preserved
loop-row-preserved g c n gs d =
    run_more g.M.Machine.acts n c.args.rows.now gs c.loop-row.row-index (one Kind.X 0 0) _ _ _ d c.loop-row-test.true (c.loop-row.invariant n gs d)
    (c.apply.ensures n _ (decoded_at n c.args.rows.now gs c.loop-row.row-index _ (one Kind.X 0 0) d c.loop-row-test.true))

pub returns : goal.returns
returns g c n gs d =
    c.loop-row.invariant n gs d
    ∙ ap (λ l. run g.M.Machine.acts (map gate l) (g.M.Machine.means c.args.machine.now)) (take_all c.loop-row.row-index gs (omega (arith, c.loop-row-test.false, decoded_length n c.args.rows.now gs d)))
