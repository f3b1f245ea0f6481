use Rattle.std.proofs.Common.{◌≡◌, List, ◌++◌, take, string_bytes}
use Rattle.std.specs.List.{flat_map}
use Rattle.rows.specs.Steps.{Gate}
use Rattle.chains.specs.Chained.{Decodes}
use Rattle.report.specs.Report.{kind_line}
use Rattle.report.proofs.count.Listed.add_kinds.Given as goal

abbrev pub invariant-loop-kind : goal.invariant-loop-kind
invariant-loop-kind l = (gs : List Gate) → Decodes l.self.qubits l.self.rows.now gs →
    string_bytes l.out ≡ string_bytes l.initial.out ++ flat_map (kind_line gs) (take l.kind-index l.wanted)
