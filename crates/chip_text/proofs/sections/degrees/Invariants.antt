use Rattle.std.proofs.Common.{◌≡◌, ◌++◌, string_bytes}
use Rattle.chip.specs.Chips.{chart_of}
use Rattle.chip_text.specs.Report.{each, degree_line}
use Rattle.chip_text.proofs.sections.degrees.Given as goal

abbrev pub invariant-loop-a : goal.invariant-loop-a
invariant-loop-a l = string_bytes l.out ≡ string_bytes l.initial.out ++ each l.a-counter (degree_line (chart_of l.chip))
