use Rattle.std.proofs.Common.{◌≡◌, ℕ, List, map, take}
use Rattle.rows.specs.Steps.{Gate, gate}
use Rattle.machine.specs.Machines.{run}
use Rattle.chains.specs.Chained.{Decodes}
use Rattle.chains.proofs.play.play.Given as goal

abbrev pub invariant-loop-row : goal.invariant-loop-row
invariant-loop-row g l = (n : ℕ) (gs : List Gate) → Decodes n l.rows gs →
    g.M.Machine.means l.machine ≡ run g.M.Machine.acts (map gate (take l.row-index gs)) (g.M.Machine.means l.initial.machine)
