use Rattle.std.proofs.Common.{◌∙◌, rules, tests, ap, ℕ, arith}
use Rattle.std.proofs.lemmas.Iterator.{YieldsList-from_range}
use Rattle.std.proofs.lemmas.Iterator.Consumers.{YieldsList-from_filter, count_from_yields_List}
use Rattle.chip.specs.Chips.{chart_of}
use Rattle.chip_text.specs.Report.{count}
use Rattle.chip_text.proofs.Steps.{count_range}
use Rattle.chip_text.proofs.counts.degree.Goals as goal

pub returns : goal.returns
returns c =
    let n = c.wires.result in
    let p = (chart_of c.args.chip.now).coupled c.args.a in
    count_from_yields_List c.filter.result c.count.result c.count.ensures.ran
    (YieldsList-from_filter _ p (YieldsList-from_range 0 n n c.filter.ensures.source (omega arith)) c.filter.ensures.closure (λ x r q k. search (rules, tests)))
    ∙ count_range p n ∙ ap (λ (m : ℕ). count m p) c.wires.ensures.count
