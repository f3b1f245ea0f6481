use Rattle.std.proofs.Common.{string_bytes}
use Rattle.report.specs.Report.{too_long}
use Rattle.std.proofs.lemmas.Result.{IfOk-weaker}
use Rattle.report.proofs.FromReading.{reports_same}
use Rattle.report.proofs.whole.report.Goals as goal

pub returns-then-text-gt-LIMIT : goal.returns-then-text-gt-LIMIT
returns-then-text-gt-LIMIT c =
    IfOk-weaker c.from_str.result _ _ (λ s e. reports_same c.args.text.now _ (string_bytes s) (too_long c.if-text-gt-LIMIT.true) e) c.from_str.ensures.ok
