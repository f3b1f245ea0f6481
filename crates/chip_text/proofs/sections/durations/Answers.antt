use Rattle.std.proofs.Common.{ℕ, ◌+◌, ◌<◌, ◌++◌, ap, ◌∙◌, string_bytes, arith}
use Rattle.rows.specs.Kinds.{coded}
use Rattle.rows.proofs.StepKinds.{all_length, at_index}
use Rattle.chip.specs.Chips.{chart_of}
use Rattle.chip_text.specs.Report.{kind_name, duration_line}
use Rattle.chip_text.proofs.Steps.{each_more}
use Rattle.chip_text.proofs.sections.durations.Goals as goal

pub loop-kind-preserved : goal.loop-kind-preserved
loop-kind-preserved c =
    let chart = chart_of c.args.chip.now in
    let before = string_bytes c.loop-kind.out in
    let i = c.loop-kind.kind-index in
    let low : i < 12 = omega (arith, all_length c.all-kind-items.result c.all-kind-items.ensures) in
    each_more (λ j. duration_line (kind_name (coded (j + 1))) (chart.cycles (j + 1))) i (string_bytes c.args.out.now) before _ c.loop-kind.invariant
    (c.in_ok-duration.ensures
    ∙ ap (λ (k : ℕ). before ++ duration_line (kind_name (coded k)) (chart.cycles k)) (at_index c.all-kind-items.result c.all-kind-items.ensures i _ low))
