use Rattle.std.proofs.Common.{◌≡◌, ◌<◌, true, length, ap, ◌∙◌, arith}
use Rattle.std.proofs.lemmas.List.{get_or_read}
use Rattle.std.proofs.lemmas.Bool.Decides.{nat_tests}
use Rattle.cells.proofs.Entries.{tabled_one}
use Rattle.cells.proofs.slices.gate_one.Goals as goal

pub returns : goal.returns
returns g c =
    let r = g.L.Local.rule in
    let known : r.known c.args.kind ≡ true = grind (arith, nat_tests) in
    let f : c.args.a.0 < c.args.width.n = grind (arith, nat_tests) in
    let h : c.args.a.0 < length c.args.table.now = omega arith in
    tabled_one r g.L.Local.blank c.args.width.n c.args.table.now c.args.minus c.args.width.ok c.args.kind c.args.k c.args.a.0 c.single-made.result known c.requires f h
    (c.single-made.ensures ∙ ap (r.single c.args.kind c.args.k) (get_or_read c.args.table.now c.args.a.0 c.index-table-i.result h c.index-table-i.is g.L.Local.blank))
