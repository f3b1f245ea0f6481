use Rattle.std.proofs.Common.{◌≡◌, ◌≤◌, map, length, take}
use Rattle.rows.specs.Steps.{gate_at, gates_of}
use Rattle.plan.proofs.Circuits.{DecodedBelow}
use Rattle.plan.proofs.circuit.Circuit.of.Given as goal

abbrev pub invariant-loop-i : goal.invariant-loop-i
invariant-loop-i l =
    (length l.gates ≡ 1024) × (l.i ≤ 1024)
    × (map gate_at (take l.i l.gates) ≡ gates_of l.qubits (take l.i l.rows))
    × DecodedBelow l.qubits l.rows l.i
