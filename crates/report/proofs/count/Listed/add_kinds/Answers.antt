use Rattle.std.proofs.Common.{◌++◌, get_or, string_bytes, ◌∙◌, rules}
use Rattle.rows.specs.declared.kind.Kind.{Kind}
use Rattle.report.specs.Features.{of_kind}
use Rattle.report.specs.Report.{entry, kind_line}
use Rattle.report.proofs.Printing.{line_more}
use Rattle.report.proofs.count.Listed.add_kinds.Goals as goal
use borrow.Author.Tests.{tests}

pub loop-kind-preserved : goal.loop-kind-preserved
loop-kind-preserved c gs d =
    line_more (kind_line gs) c.args.wanted.now c.loop-kind.kind-index Kind.X _ _ _ c.loop-kind-test.true (c.loop-kind.invariant gs d)
    (c.in_ok-add_entry.ensures ∙ (λ i. string_bytes c.loop-kind.out ++ entry (c.name.ensures i) (c.count-n.ensures (of_kind (get_or c.args.wanted.now c.loop-kind.kind-index Kind.X)) (λ g b k. search (rules, tests)) gs d i)))
