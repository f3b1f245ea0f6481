use Rattle.std.proofs.Common.{◌≡◌, ◌<◌, ◌≤◌, length, ◌∙◌, arith, rules}
use borrow.Author.Tests.{tests}
use Rattle.std.specs.List.{swap}
use Rattle.layers.proofs.OneToOne.{patched}
use Rattle.layers.proofs.names.Names.patch.Goals as goal

pub invariant_of-self : goal.invariant_of-self
invariant_of-self c =
    let n = c.args.self.now.width.n in
    let xs = c.args.self.now.table in
    let le : n ≤ length xs = search rules in
    let f : c.args.a.0 < n = search (rules, tests) in
    let g : c.args.b.0 < n = search (rules, tests) in
    let e : c.trade.new.table ≡ swap xs c.args.a.0 c.args.b.0 = c.trade.ensures.traded (omega arith) (omega arith) ∙ (λ i. swap xs (c.from.ensures i) (c.from-then-has-2.ensures i)) in
    let t = patched n xs c.trade.new.table c.args.a.0 c.args.b.0 le f g e c.args.self.now.inside c.args.self.now.once in
    record { inside = t.0; once = t.1 }

pub returns-then-has-2-clause-names : goal.returns-then-has-2-clause-names
returns-then-has-2-clause-names c =
    let n = c.args.self.now.width.n in
    let xs = c.args.self.now.table in
    let le : n ≤ length xs = search rules in
    let f : c.args.a.0 < n = search (rules, tests) in
    let g : c.args.b.0 < n = search (rules, tests) in
    let e : c.trade.new.table ≡ swap xs c.args.a.0 c.args.b.0 = c.trade.ensures.traded (omega arith) (omega arith) ∙ (λ i. swap xs (c.from.ensures i) (c.from-then-has-2.ensures i)) in
    (patched n xs c.trade.new.table c.args.a.0 c.args.b.0 le f g e c.args.self.now.inside c.args.self.now.once).2
