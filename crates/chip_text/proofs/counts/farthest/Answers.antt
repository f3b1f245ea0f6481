use Rattle.std.proofs.Common.{ℕ, max, ◌∙◌, rules, tests, ap, arith}
use Rattle.std.proofs.lemmas.Iterator.{YieldsList-from_range}
use Rattle.std.proofs.lemmas.Iterator.Consumers.{fold_from_yields_List}
use Rattle.chip.specs.Chips.{chart_of}
use Rattle.chip_text.specs.Within.{within}
use Rattle.chip_text.proofs.Steps.{range, largest_range}
use Rattle.chip_text.proofs.counts.farthest.Goals as goal

pub returns : goal.returns
returns c far h =
    let n = (chart_of c.args.chip.now).wires in
    let f : ℕ → ℕ = within n far c.args.a in
    fold_from_yields_List _ (λ most k. max most (f k)) 0 c.fold.result c.fold.ensures.ran (YieldsList-from_range 0 n n (ap range c.wires.ensures.count) (omega arith)) (λ a x b q k. search (rules, tests))
    ∙ largest_range f n
