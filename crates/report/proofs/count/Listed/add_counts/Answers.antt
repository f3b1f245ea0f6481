use Rattle.std.proofs.Common.{◌++◌, length, string_bytes, codes, ap, ◌∙◌, rules}
use borrow.Author.Tests.{tests}
use Rattle.std.specs.List.{flat_map}
use Rattle.report.specs.Features.{on_two, counted}
use Rattle.report.specs.Report.{entry, kinds, kind_line}
use Rattle.report.proofs.Counting.{decoded_length}
use Rattle.report.proofs.Printing.{five_parts}
use Rattle.report.proofs.count.Listed.add_counts.Goals as goal

pub returns : goal.returns
returns c gs d some few short = (
  c.depth_of-deep.result,
  c.depth_of-deep.ensures gs d some few short,
  five_parts (string_bytes c.args.out.now) _ _ _ _ _
      (entry (codes "qubits") c.args.self.now.qubits) (entry (codes "gates") (length gs)) (flat_map (kind_line gs) kinds) (entry (codes "two-qubit") (counted on_two gs)) (entry (codes "depth") c.depth_of-deep.result)
      c.in_ok-add_entry.ensures
      (c.in_ok-add_entry-2.ensures ∙ ap (λ n. string_bytes c.add_entry.new.out ++ entry (codes "gates") n) (decoded_length c.args.self.now.qubits c.args.self.now.rows.now gs d))
      (c.in_ok-add_kinds.ensures gs d ∙ ap (λ l. string_bytes c.add_entry-2.new.out ++ flat_map (kind_line gs) l) c.all_kinds.ensures)
      (c.in_ok-add_entry-3.ensures ∙ ap (λ n. string_bytes c.add_kinds.new.out ++ entry (codes "two-qubit") n) (c.count-on_two.ensures on_two (λ g b k. search (rules, tests)) gs d))
      c.in_ok-add_entry-4.ensures,
)
