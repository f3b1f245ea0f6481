-- What the machines tell of a circuit that was run on them.
use Rattle.std.specs.Prelude.{ℕ, ◌<◌, ◌↔◌, List}
use Rattle.rows.specs.Steps.{Gate}
use Rattle.machine.specs.Local.{local}
use Rattle.cone.specs.Sets.{cone_rule, In}
use Rattle.cone.specs.Means.{Cone, cone_means}
use Rattle.depth.specs.Counts.{depth_rule}
use Rattle.depth.specs.Longest.{Longest}
use Rattle.depth.specs.Means.{Depth, depth_means}
use Rattle.chains.specs.declared.sources.Sources.{Sources}
use Rattle.chains.specs.Chained.{Source}

-- the count of each wire is the length of the longest chain that ends there
pub record Counted (m : Depth) (n : ℕ) (gs : List Gate) : Type 0 where
  pub longest : (i : ℕ) → i < n → Longest n gs i ((local depth_rule).reads (depth_means m) i)

-- the set holds just the qubits that the result of qubit q can depend on
pub record SourceSet (set n : ℕ) (gs : List Gate) (q : ℕ) : Type 0 where
  pub holds : (j : ℕ) → In j set ↔ Source n gs q j

-- the set of each wire holds just the qubits that its result can depend on
pub record Caused (m : Cone) (n : ℕ) (gs : List Gate) : Type 0 where
  pub sets : (q : ℕ) → q < n → SourceSet ((local cone_rule).reads (cone_means m) q) n gs q

-- the same of the sets that are kept
abbrev pub Sourced : Sources → ℕ → List Gate → Type 0
Sourced s n gs = Caused s.cone n gs
