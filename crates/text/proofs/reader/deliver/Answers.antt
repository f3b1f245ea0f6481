use Rattle.std.proofs.Common.{◌++◌, drop, Ok, ap}
use Rattle.text.proofs.Back.{read_as}
use Rattle.text.proofs.Whole.{copied}
use Rattle.text.proofs.reader.deliver.Goals as goal

pub returns : goal.returns
returns c =
    read_as c.args.text.now c.args.rows.now _ (Ok c.args.circuit)
    (copied c.args.text.now c.args.circuit c.args.table.now c.args.rows.now _ c.requires.found (ap (λ l. l ++ drop c.args.circuit.gates c.args.rows.now) c.copy_from_slice.ensures.after))
