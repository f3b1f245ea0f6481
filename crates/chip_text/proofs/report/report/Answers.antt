use Rattle.std.proofs.Common.{ℕ, List, get_or, string_bytes, subst}
use Rattle.std.proofs.lemmas.List.{take_rest}
use Rattle.std.proofs.lemmas.Result.{IfOk-weaker}
use Rattle.chip_text.specs.Report.{Text}
use Rattle.chip_text.proofs.Steps.{printed_some}
use Rattle.chip_text.proofs.report.report.Goals as goal

pub returns-in-len1-up : goal.returns-in-len1-up
returns-in-len1-up c =
    IfOk-weaker c.report_of-in-len1-up.result _ _
    (λ t p. printed_some c.args.input.now (string_bytes t) c.in-len1-up.len_at_least
    (subst (λ (xs : List ℕ). Text (get_or c.args.input.now 0 0) xs (string_bytes t)) (take_rest c.args.input.now 1) p))
    c.report_of-in-len1-up.ensures
