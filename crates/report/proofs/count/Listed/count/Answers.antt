use Rattle.std.proofs.Common.{◌∙◌, rules}
use borrow.Author.Tests.{tests}
use Rattle.std.proofs.lemmas.Iterator.{YieldsList-from_slice}
use Rattle.std.proofs.lemmas.Iterator.Consumers.{YieldsList-from_filter, count_from_yields_List}
use Rattle.std.proofs.lemmas.List.Sums.{length-filter}
use Rattle.rows.specs.Steps.{gate_of}
use Rattle.report.specs.Features.{marked}
use Rattle.report.proofs.Counting.{decoded_count}
use Rattle.report.proofs.count.Listed.count.Goals as goal

pub returns : goal.returns
returns g c p told gs d =
    count_from_yields_List c.filter.result c.count.result c.count.ensures.ran
    (YieldsList-from_filter _ (λ row. marked p (gate_of c.args.self.now.qubits row)) (YieldsList-from_slice c.args.self.now.rows.now cc) c.filter.ensures.closure (λ x b q k. search (rules, tests, told)))
    ∙ length-filter (λ row. marked p (gate_of c.args.self.now.qubits row)) c.args.self.now.rows.now ∙ decoded_count p c.args.self.now.qubits c.args.self.now.rows.now gs d
