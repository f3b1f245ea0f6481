use Rattle.layers.proofs.OneToOne.{straight}
use Rattle.layers.proofs.names.Names.straight.Goals as goal

pub invariant_of-result : goal.invariant_of-result
invariant_of-result c =
    let t = straight c.args.width.n c.counted-table.result c.args.width.ok c.counted-table.ensures in
    record { inside = t.0; once = t.1 }

pub returns-clause-names : goal.returns-clause-names
returns-clause-names c = (straight c.args.width.n c.counted-table.result c.args.width.ok c.counted-table.ensures).2
