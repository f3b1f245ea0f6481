use Rattle.std.proofs.Common.{rules}
use Rattle.machine.specs.Machines.{HasTrueCnot}
use Rattle.machine.specs.Local.{local}
use Rattle.cells.specs.Means.{means_of}
use Rattle.cells.proofs.table.gates.TableTrueCnot.true_cnot.Goals as goal

pub returns : goal.returns
returns g c =
    let u = means_of g.L.Tabled.signed g.L.Local.blank c.args.self.now in
    let crosses : HasTrueCnot (local g.L.Local.rule) = search rules in
    record { knows = crosses.knows_cnot u; crosses = crosses.exchange c.args._a.0 c.args._b.0 u }
