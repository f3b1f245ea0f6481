use Rattle.std.proofs.Common.{◌≡◌, ℕ, ◌≤◌, List, ◌++◌, string_bytes}
use Rattle.rows.specs.Steps.{Gate}
use Rattle.chains.specs.Chained.{Decodes}
use Rattle.chains.specs.Sourced.{Sourced}
use Rattle.report.specs.Report.{QubitLines}
use Rattle.report.proofs.count.Listed.add_qubits.Given as goal

abbrev pub invariant-loop-q : goal.invariant-loop-q
invariant-loop-q l = (gs : List Gate) → Decodes l.self.qubits l.self.rows.now gs → Sourced l.sources l.self.qubits gs → l.self.qubits ≤ 64 →
    (lines : List ℕ) × QubitLines l.self.qubits gs l.q lines × (string_bytes l.out ≡ string_bytes l.initial.out ++ lines)
