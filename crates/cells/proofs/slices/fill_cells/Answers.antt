use Rattle.std.proofs.Common.{length, arith}
use Rattle.cells.proofs.Entries.{tabled_made}
use Rattle.cells.proofs.slices.fill_cells.Goals as goal

pub returns : goal.returns
returns g c = λ minus.
    tabled_made g.L.Local.blank (g.L.Local.made c.args.width.n) c.args.width.n c.loop-i.table (length c.args.table.now) c.args.numbers.now minus
    c.loop-i.auto.table (g.met.L.Local.zero c.args.width.n) (λ w h. c.loop-i.invariant w (omega arith))
