-- Numbers in a text.
use Rattle.std.specs.Prelude.{◌≡◌, ℕ, ◌≤◌, List, [], ◌∷◌, ◌++◌, decimal}
use Rattle.std.specs.Int.{IsInRange}

-- the byte is one of `0` to `9`
abbrev pub Digit : ℕ → Type 0
Digit b = IsInRange 48 57 b

-- the first byte, if there is one, is not of this class
abbrev pub Unlike : (ℕ → Type 0) → List ℕ → Type 0
Unlike C [] = Unit {0}
Unlike C (b ∷ bs) = ¬ C b

-- s begins with the number v, at most limit and with no leading zero, and goes on with rest
pub record Begins (limit : ℕ) (s : List ℕ) (v : ℕ) (rest : List ℕ) : Type 0 where
  pub small : v ≤ limit
  pub ended : Unlike Digit rest
  pub split : s ≡ decimal v ++ rest
