use Rattle.std.proofs.Common.{◌≡◌, true}
use Rattle.rows.specs.Steps.{pair_below}
use Rattle.cells.proofs.Entries.{tabled_crossed}
use Rattle.cells.proofs.slices.trade_cells.Goals as goal

pub returns-then-has_two : goal.returns-then-has_two
returns-then-has_two g c = λ minus.
    let h : pair_below c.args.width.n c.args.a.0 c.args.b.0 ≡ true = cc in
    tabled_crossed g.L.Local.rule g.L.Local.blank c.args.width.n c.args.table.now minus c.args.width.ok c.trade.new.table c.args.a.0 c.args.b.0 h
    c.trade.ensures.traded c.trade.ensures.untouched
