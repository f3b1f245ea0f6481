use Rattle.std.proofs.Common.{◌≡◌, ℕ, ◌++◌, string_bytes}
use Rattle.chip.specs.Chips.{chart_of}
use Rattle.chip_text.specs.Report.{each, Far, distance_line}
use Rattle.chip_text.proofs.sections.distances.Given as goal

abbrev pub invariant-loop-a : goal.invariant-loop-a
invariant-loop-a l = (far : ℕ → ℕ → ℕ) → Far (chart_of l.chip) far → string_bytes l.out ≡ string_bytes l.initial.out ++ each l.a (distance_line (chart_of l.chip).wires far)
