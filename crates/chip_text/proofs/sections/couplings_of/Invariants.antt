use Rattle.std.proofs.Common.{◌≡◌, ◌++◌, string_bytes}
use Rattle.chip.specs.Chips.{chart_of}
use Rattle.chip_text.specs.Report.{each, coupling_part}
use Rattle.chip_text.proofs.sections.couplings_of.Given as goal

abbrev pub invariant-loop-b : goal.invariant-loop-b
invariant-loop-b l = string_bytes l.out ≡ string_bytes l.initial.out ++ each l.b (coupling_part (chart_of l.chip) l.a)
