-- What Cone's sets say.
use Rattle.std.specs.Prelude.{ℕ, ◌<◌, ◌↔◌, List, map}
use Rattle.rows.specs.Steps.{Gate, gate}
use Rattle.machine.specs.Machines.{run}
use Rattle.machine.specs.Local.{Cells, local}
use Rattle.machine.specs.Chains.{Chain}
use Rattle.cone.specs.Sets.{cone_rule, In}

-- from this state of n wires, after any gates, wire j is in the set at wire i exactly when a chain of the gates leads from j to i
abbrev pub Causal : ℕ → Cells ℕ → Type 0
Causal n u = (gates : List Gate) (j i : ℕ) → i < n →
    In j ((local cone_rule).reads (run (local cone_rule) (map gate gates) u) i) ↔ ((c : List Gate) × Chain n gates j i c)
