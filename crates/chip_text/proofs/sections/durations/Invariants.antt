use Rattle.std.proofs.Common.{◌≡◌, ◌+◌, ◌++◌, string_bytes}
use Rattle.rows.specs.Kinds.{coded}
use Rattle.chip.specs.Chips.{chart_of}
use Rattle.chip_text.specs.Report.{each, kind_name, duration_line}
use Rattle.chip_text.proofs.sections.durations.Given as goal

abbrev pub invariant-loop-kind : goal.invariant-loop-kind
invariant-loop-kind l =
    string_bytes l.out ≡ string_bytes l.initial.out ++ each l.kind-index (λ i. duration_line (kind_name (coded (i + 1))) ((chart_of l.chip).cycles (i + 1)))
