use Rattle.std.proofs.Common.{string_bytes}
use Rattle.chip.specs.Chips.{chart_of}
use Rattle.chip_text.specs.Report.{coupling_part}
use Rattle.chip_text.proofs.Steps.{each_more}
use Rattle.chip_text.proofs.sections.couplings_of.Goals as goal

pub loop-b-preserved : goal.loop-b-preserved
loop-b-preserved c = each_more (coupling_part (chart_of c.args.chip.now) c.args.a) c.loop-b.b (string_bytes c.args.out.now) (string_bytes c.loop-b.out) _ c.loop-b.invariant c.in_ok-coupling.ensures
