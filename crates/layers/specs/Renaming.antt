-- Names of wires, one to one.
use Rattle.std.specs.Prelude.{◌≡◌, ℕ, ◌<◌, cond, ◌&&◌, List, length, ◌==◌, nat_lt, slice_index_or}
use Rattle.std.specs.List.{swap}

-- every name is a wire
abbrev pub Inside : List ℕ → Type 0
Inside names = (a : ℕ) → a < length names → slice_index_or names a 64 < length names

-- no two wires have one name
abbrev pub Once : List ℕ → Type 0
Once names = (a b : ℕ) → (a < length names) × (b < length names) × (slice_index_or names a 64 ≡ slice_index_or names b 64) → a ≡ b

-- The name of a wire on a machine of n wires. A wire that is not below n has none: it goes by 64, which is no machine's wire.
-- Names that are not as many as the wires count for nothing.
abbrev pub named : ℕ → List ℕ → ℕ → ℕ
named n names a = cond (length names == n) (slice_index_or names a 64) 64

-- the names of two wires traded; none for a wire that has no name
abbrev pub patched : List ℕ → ℕ → ℕ → List ℕ
patched names a b = cond (nat_lt a (length names) && nat_lt b (length names)) (swap names a b) names
