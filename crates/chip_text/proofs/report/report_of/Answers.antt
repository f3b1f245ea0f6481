use Rattle.std.proofs.Common.{string_bytes}
use Rattle.std.proofs.lemmas.Result.{IfOk-weaker}
use Rattle.chip.specs.Chips.{chart_of}
use Rattle.chip_text.proofs.Steps.{text_for}
use Rattle.chip_text.proofs.report.report_of.Goals as goal

pub returns-in-Ok : goal.returns-in-Ok
returns-in-Ok c =
    let e = c.in-Ok.ensures in
    let r = c.args.records in
    IfOk-weaker c.describe.result _ _
    (λ t p. text_for (chart_of c.in-Ok.chip) r.wires r.bytes.now (string_bytes t) e.good e.answer.0 e.answer.1 p) c.describe.ensures
