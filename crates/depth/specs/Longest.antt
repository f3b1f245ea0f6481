-- What Depth counts.
use Rattle.std.specs.Prelude.{◌≡◌, ℕ, ◌<◌, ◌≤◌, min, List, map, length}
use Rattle.rows.specs.Steps.{Gate, gate}
use Rattle.machine.specs.Machines.{run}
use Rattle.machine.specs.Local.{Cells, local}
use Rattle.machine.specs.Chains.{Chain}
use Rattle.depth.specs.Counts.{depth_rule, largest}

-- there is a longest chain that ends at wire i, and count is its length, or the largest count if it is longer
pub record Longest (n : ℕ) (gates : List Gate) (i count : ℕ) : Type 0 where
  pub start : ℕ
  pub chain : List Gate
  pub ends : Chain n gates start i chain
  pub no_longer : (j : ℕ) (c : List Gate) → Chain n gates j i c → length c ≤ length chain
  pub counted : count ≡ min (length chain) largest

-- from this state of n wires, after any gates, each wire reads the length of the longest chain that ends there
abbrev pub CountsChains : ℕ → Cells ℕ → Type 0
CountsChains n u = (gates : List Gate) (i : ℕ) → i < n →
    Longest n gates i ((local depth_rule).reads (run (local depth_rule) (map gate gates) u) i)
