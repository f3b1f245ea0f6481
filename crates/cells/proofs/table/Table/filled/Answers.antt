use Rattle.std.proofs.Common.{◌≡◌, ◌&&◌, ◌∙◌, min, arith}
use Rattle.cells.specs.Tables.{made_of}
use Rattle.cells.proofs.table.Table.filled.Goals as goal

pub returns-clause-made : goal.returns-clause-made
returns-clause-made g c =
    let n = c.args.width.n in
    let minus = g.L.Tabled.signed && c.args.minus in
    let ok = c.args.width.ok in
    let wide : min n 64 ≡ n = omega arith in
    c.fill_cells.ensures minus ∙ (λ i. made_of (g.L.Local.made n) (wide i) c.args.numbers.now minus)
