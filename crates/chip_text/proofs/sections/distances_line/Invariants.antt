use Rattle.std.proofs.Common.{◌≡◌, ℕ, ◌++◌, string_bytes, codes, decimal}
use Rattle.chip.specs.Chips.{chart_of}
use Rattle.chip_text.specs.Report.{each, Far}
use Rattle.chip_text.proofs.sections.distances_line.Given as goal

abbrev pub invariant-loop-b : goal.invariant-loop-b
invariant-loop-b l = (far : ℕ → ℕ → ℕ) → Far (chart_of l.chip) far → string_bytes l.out ≡ string_bytes l.initial.out ++ each l.b (λ b. codes " " ++ decimal (far l.fn.a b))
