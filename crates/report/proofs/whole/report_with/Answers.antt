use Rattle.std.proofs.Common.{string_bytes}
use Rattle.std.proofs.lemmas.Result.{IfOk-weaker}
use Rattle.report.proofs.FromReading.{reports_same, rows_decode, circuit_reported, circuit_small, refusal_reported}
use Rattle.report.proofs.whole.report_with.Goals as goal

pub returns-in-Ok : goal.returns-in-Ok
returns-in-Ok c =
    let h = c.in-Ok.ensures.reads in
    let text = c.args.text.now in
    let rows = c.args.rows.now in
    let new = c.read.new.rows in
    let small = circuit_small text rows new c.requires.many c.in-Ok.field-0 h in
    IfOk-weaker c.show.result _ _ (λ s e. circuit_reported text rows new c.requires.many c.in-Ok.field-0 h c.requires.short (string_bytes s)
    (e h.0 (rows_decode text rows new c.requires.many c.in-Ok.field-0 h) small.0 small.1 small.2))
    c.show.ensures

pub returns-in-Err : goal.returns-in-Err
returns-in-Err c =
    IfOk-weaker c.format.result _ _ (λ s e. reports_same c.args.text.now _ (string_bytes s)
    (refusal_reported c.args.text.now c.args.rows.now c.read.new.rows c.requires.many c.in-Err.fault c.in-Err.ensures.reads c.requires.short) e)
    c.format.ensures.ok
