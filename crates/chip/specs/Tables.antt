-- How the tables of the code stand for a chart. Nothing outside this crate cites these.
use Rattle.std.specs.Prelude.{◌≡◌, ℕ, zero, suc, ◌+◌, ◌<◌, ◌≤◌, Bool, true, false, ◌⊎◌, List, [], Some, None, Option, is_some, length, take, count_by, slice_index, slice_index_or}
use Rattle.rows.specs.declared.refusal.Refusal.{Refusal}
use Rattle.rows.specs.declared.refusal.Fault.{Fault}
use Rattle.chip.specs.Charts.{Chart, Walk, Distance, records, joins, duration, GoodRecord}

-- row a, column b of a table
abbrev pub flag_at : List (List Bool) → ℕ → ℕ → Bool
flag_at table a b = slice_index_or (slice_index_or table a []) b false

abbrev pub number_at : List (List ℕ) → ℕ → ℕ → ℕ
number_at table a b = slice_index (slice_index_or table a []) b

-- the chart of n wires that tables of couplings and of durations hold
abbrev pub chart_at : ℕ → List (List Bool) → List ℕ → Chart
chart_at n couplings durations = record { wires = n; coupled = flag_at couplings; cycles = λ k. slice_index durations k }

-- a number that is not 0; 0 stands for none
abbrev pub given : ℕ → Option ℕ
given zero = None
given (suc d) = Some (suc d)

-- the tables hold the first m records, and these are good
pub record Read (n : ℕ) (bs : List ℕ) (m : ℕ) (couplings : List (List Bool)) (durations : List (Option ℕ)) : Type 0 where
  pub good : (i : ℕ) → i < m → GoodRecord n bs i
  pub coupled : (a b : ℕ) → flag_at couplings a b ≡ joins n (take m (records bs)) a b
  pub lasting : (k : ℕ) → slice_index_or durations k None ≡ given (duration (take m (records bs)) k)

-- each kind has a duration, and these are its cycles
pub record AllGiven (durations : List (Option ℕ)) (cycles : List ℕ) : Type 0 where
  pub long : length cycles ≡ 13
  pub none : slice_index cycles 0 ≡ 0
  pub same : (k : ℕ) → 1 ≤ k → k ≤ 12 → slice_index_or durations k None ≡ Some (slice_index cycles k)

-- the refusal at the lowest kind that has no duration
pub record FirstMissing (durations : List (Option ℕ)) (f : Fault) : Type 0 where
  pub refusal : f.refusal ≡ Refusal.NoDuration
  pub low : 1 ≤ f.place
  pub high : f.place ≤ 12
  pub none : slice_index_or durations f.place None ≡ None
  pub before : (q : ℕ) → 1 ≤ q → q < f.place → is_some (slice_index_or durations q None) ≡ true

-- the chart of couplings alone
abbrev pub links : List (List Bool) → Chart
links couplings = chart_at 64 couplings []

-- wire v is found, by k couplings
abbrev pub Found : List (Option ℕ) → ℕ → ℕ → Type 0
Found steps v k = slice_index_or steps v None ≡ Some k

-- wire v is among those found
abbrev pub IsFound : List (Option ℕ) → ℕ → Type 0
IsFound steps v = is_some (slice_index_or steps v None) ≡ true

-- how many are found
abbrev pub size : List (Option ℕ) → ℕ
size steps = count_by (λ (o : Option ℕ). is_some o) steps

-- just the wires with a walk from a of at most d couplings are found, with the fewest
pub record Level (couplings : List (List Bool)) (a d : ℕ) (steps : List (Option ℕ)) : Type 0 where
  pub reached : (v k : ℕ) → Found steps v k → Walk (links couplings) k a v
  pub within : (v k : ℕ) → Found steps v k → k ≤ d
  pub complete : (v k : ℕ) → k ≤ d → Walk (links couplings) k a v → (j : ℕ) × Found steps v j × (j ≤ k)

-- more wires are found: those before stay, each new one is coupled with one d couplings away
pub record Grown (couplings : List (List Bool)) (d : ℕ) (steps : List (Option ℕ)) (steps' : List (Option ℕ)) : Type 0 where
  pub long : length steps' ≡ length steps
  pub kept : (v k : ℕ) → Found steps v k → Found steps' v k
  pub fresh : (v k : ℕ) → Found steps' v k
      → Found steps v k ⊎ ((k ≡ d + 1) × ((u : ℕ) × Found steps u d × (flag_at couplings u v ≡ true)))

-- the row has the distance of wire a from each wire that it reaches
abbrev pub Distances : List (List Bool) → ℕ → List ℕ → Type 0
Distances couplings a row = (v k : ℕ) → Walk (links couplings) k a v → Distance (links couplings) a v (slice_index row v) × (slice_index row v < 64)

-- every wire that wire a reaches is found, and no other, by the fewest couplings
pub record AllReached (couplings : List (List Bool)) (a : ℕ) (steps : List (Option ℕ)) : Type 0 where
  pub fewest : (v d : ℕ) → Found steps v d → Distance (links couplings) a v d × (d < 64)
  pub all : (v k : ℕ) → Walk (links couplings) k a v → IsFound steps v
