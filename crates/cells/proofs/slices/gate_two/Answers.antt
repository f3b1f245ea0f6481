use Rattle.std.proofs.Common.{◌≡◌, ◌<◌, true, length, get_or, ◌∙◌, arith}
use Rattle.std.proofs.lemmas.List.{get_or_read}
use Rattle.std.proofs.lemmas.Bool.Decides.{nat_tests}
use Rattle.rows.specs.Steps.{pair_below}
use Rattle.cells.proofs.Entries.{tabled_two}
use Rattle.cells.proofs.slices.gate_two.Goals as goal

pub returns : goal.returns
returns g c =
    let r = g.L.Local.rule in
    let xs = c.args.table.now in
    let known : r.known c.args.kind ≡ true = grind (arith, nat_tests) in
    let p : pair_below c.args.width.n c.args.a.0 c.args.b.0 ≡ true = grind (arith, nat_tests) in
    let f : c.args.a.0 < length xs = omega arith in
    let h : c.args.b.0 < length xs = omega arith in
    let u : c.index-table-i.result ≡ get_or xs c.args.a.0 g.L.Local.blank = get_or_read xs c.args.a.0 c.index-table-i.result f c.index-table-i.is g.L.Local.blank in
    let v : c.index-table-j.result ≡ get_or xs c.args.b.0 g.L.Local.blank = get_or_read xs c.args.b.0 c.index-table-j.result h c.index-table-j.is g.L.Local.blank in
    tabled_two r g.L.Local.blank c.args.width.n xs c.args.minus c.args.width.ok c.args.kind c.args.k c.args.a.0 c.args.b.0 c.double-made.result known c.requires p f h
    (c.double-made.ensures ∙ (λ i. r.double c.args.kind c.args.k (u i) (v i)))
