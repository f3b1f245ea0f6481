-- The greatest of some numbers.
use Rattle.std.specs.Prelude.{◌≡◌, ℕ, ◌<◌, ◌≤◌}

-- of f 0, f 1, .. below n, r is the greatest; 0 if there is none
pub record Greatest (f : ℕ → ℕ) (n r : ℕ) : Type 0 where
  pub none : n ≡ 0 → r ≡ 0
  pub reached : 1 ≤ n → (q : ℕ) × (q < n) × (f q ≡ r)
  pub at_most : (q : ℕ) → q < n → f q ≤ r
