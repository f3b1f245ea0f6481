-- Distances as the code looks them up. Nothing outside this crate cites these.
use Rattle.std.specs.Prelude.{ℕ, cond, ◌&&◌, nat_lt}
use Rattle.chip_text.specs.Report.{largest}

-- the distance of two of n wires, 0 where one of the two is not
abbrev pub within : ℕ → (ℕ → ℕ → ℕ) → ℕ → ℕ → ℕ
within n far a b = cond (nat_lt a n && nat_lt b n) (far a b) 0

-- the largest distance from one of n wires, 0 where it is not one
abbrev pub longest : ℕ → (ℕ → ℕ → ℕ) → ℕ → ℕ
longest n far a = largest n (within n far a)
