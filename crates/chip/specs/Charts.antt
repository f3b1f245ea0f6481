-- A chip by its records: couplings, durations, walks and distances, and why one is refused.
use Rattle.std.specs.Prelude.{◌≡◌, ℕ, zero, suc, ◌+◌, ◌*◌, ◌%◌, ◌<◌, ◌≤◌, Bool, true, false, cond, ◌&&◌, ◌||◌, ◌⊎◌, List, [], ◌∷◌, length, take, ◌==◌, nat_le, slice_index_or}
use Rattle.rows.specs.declared.refusal.Refusal.{Refusal}
use Rattle.rows.specs.Kinds.{code}
use Rattle.rows.specs.Steps.{one, two, Step, gate, swap, kind_of, pair_below}

-- wires, whether two are coupled, and the cycles of a kind by its code, 12 for the exchange
pub record Chart : Type 0 where
  pub wires : ℕ
  pub coupled : ℕ → ℕ → Bool
  pub cycles : ℕ → ℕ

-- a record of 4 bytes
pub record Four : Type 0 where
  pub form : ℕ
  pub second : ℕ
  pub third : ℕ
  pub fourth : ℕ

abbrev pub four : ℕ → ℕ → ℕ → ℕ → Four
four a b c d = record { form = a; second = b; third = c; fourth = d }

-- the records that bytes hold, 4 bytes each; a rest of fewer than 4 is left out
abbrev pub records : List ℕ → List Four
records [] = []
records (a ∷ []) = []
records (a ∷ b ∷ []) = []
records (a ∷ b ∷ c ∷ []) = []
records (a ∷ b ∷ c ∷ d ∷ bs) = four a b c d ∷ records bs

-- the record couples two different wires of n: 1, a, b, 0
abbrev pub couples : ℕ → Four → Bool
couples n r = r.form == 1 && (r.fourth == 0 && pair_below n r.second r.third)

-- the record couples a and b, either way round
abbrev pub joins_two : ℕ → Four → ℕ → ℕ → Bool
joins_two n r a b = couples n r && ((r.second == a && r.third == b) || (r.second == b && r.third == a))

-- the cycles that the record 2, kind, and two bytes, lowest first, writes
abbrev pub amount : Four → ℕ
amount r = r.third + 256 * r.fourth

-- the record gives a kind 1 to 12 its duration, 1 to 4,095 cycles
abbrev pub lasts : Four → Bool
lasts r = r.form == 2 && ((nat_le 1 r.second && nat_le r.second 12) && (nat_le 1 (amount r) && nat_le (amount r) 4095))

-- some record couples a and b, either way round
abbrev pub joins : ℕ → List Four → ℕ → ℕ → Bool
joins n [] a b = false
joins n (r ∷ rs) a b = joins_two n r a b || joins n rs a b

-- the duration of kind k, 0 if no record gives one
abbrev pub duration : List Four → ℕ → ℕ
duration [] k = 0
duration (r ∷ rs) k = cond (lasts r && r.second == k) (amount r) (duration rs k)

-- the chart that n wires and record bytes give
abbrev pub chart : ℕ → List ℕ → Chart
chart n bs = record { wires = n; coupled = joins n (records bs); cycles = duration (records bs) }

abbrev pub record_number : List ℕ → ℕ → Four
record_number bs i = slice_index_or (records bs) i (four 0 0 0 0)

-- record i is as it should be: a coupling, or a duration of a kind that no earlier record gives one
abbrev pub GoodRecord : ℕ → List ℕ → ℕ → Type 0
GoodRecord n bs i = (couples n (record_number bs i) ≡ true)
    ⊎ ((lasts (record_number bs i) ≡ true) × (duration (take i (records bs)) (record_number bs i).second ≡ 0))

-- n couplings, one after the other, lead from a to b
abbrev pub Walk : Chart → ℕ → ℕ → ℕ → Type 0
Walk c zero a b = a ≡ b
Walk c (suc n) a b = (m : ℕ) × (c.coupled a m ≡ true) × Walk c n m b

-- the fewest couplings between a and b are d
pub record Distance (c : Chart) (a b d : ℕ) : Type 0 where
  pub walk : Walk c d a b
  pub shortest : (n : ℕ) → Walk c n a b → d ≤ n

-- both are wires of the chip
abbrev pub OnChip : Chart → ℕ → ℕ → Type 0
OnChip c a b = (a < c.wires) × (b < c.wires)

-- w is coupled with a, and one nearer to b
pub record OneNearer (c : Chart) (a b w : ℕ) : Type 0 where
  pub neighbour : c.coupled a w ≡ true
  pub left : ℕ
  pub there : Distance c w b left
  pub here : Distance c a b (left + 1)

-- w has the property, and no lower number does
pub record Lowest (P : ℕ → Type 0) (w : ℕ) : Type 0 where
  pub holds : P w
  pub none_lower : (v : ℕ) → v < w → ¬ P v

-- 1 to 64 wires, and bytes by 4
pub record Even (n : ℕ) (bs : List ℕ) : Type 0 where
  pub some_wire : 1 ≤ n
  pub not_many : n ≤ 64
  pub whole : length bs % 4 ≡ 0

-- why a chip is refused, and where
pub data ChipFits (n : ℕ) (bs : List ℕ) : Refusal → ℕ → Type 0 where
  ragged : ¬ Even n bs → ChipFits n bs Refusal.RaggedChip 0
  bad_record : {i : ℕ} → i < length (records bs) → ¬ GoodRecord n bs i → ChipFits n bs Refusal.BadRecord i
  no_duration : {k : ℕ} → 1 ≤ k → k ≤ 12 → (chart n bs).cycles k ≡ 0 → ChipFits n bs Refusal.NoDuration k
  parted : {w : ℕ} → w < n → ((d : ℕ) → ¬ Walk (chart n bs) d 0 w) → ChipFits n bs Refusal.Parted w

-- only wires of the chip are coupled
abbrev pub Inside : Chart → Type 0
Inside c = (a b : ℕ) → c.coupled a b ≡ true → OnChip c a b

-- couplings go both ways
abbrev pub Symmetric : Chart → Type 0
Symmetric c = (a b : ℕ) → c.coupled a b ≡ c.coupled b a

-- no wire is coupled with itself
abbrev pub Irreflexive : Chart → Type 0
Irreflexive c = (a : ℕ) → c.coupled a a ≡ false

-- what holds of the chart of every chip
pub record GoodChart (c : Chart) : Type 0 where
  pub some_wire : 1 ≤ c.wires
  pub not_many : c.wires ≤ 64
  pub inside : Inside c
  pub symmetric : Symmetric c
  pub irreflexive : Irreflexive c
  pub timed : (k : ℕ) → 1 ≤ k → k ≤ 12 → (1 ≤ c.cycles k) × (c.cycles k ≤ 4095)
  pub connected : (a b : ℕ) → a < c.wires → b < c.wires → (d : ℕ) × (d < 64) × Distance c a b d

-- the cycles of a step
abbrev pub step_cycles : Chart → Step → ℕ
step_cycles c (gate g) = c.cycles (code (kind_of g))
step_cycles c (swap a b) = c.cycles 12

-- the coupling rule: two wires are coupled
abbrev pub joined : Chart → Step → Bool
joined c (gate (one κ k a)) = true
joined c (gate (two κ k a b)) = c.coupled a b
joined c (swap a b) = c.coupled a b
