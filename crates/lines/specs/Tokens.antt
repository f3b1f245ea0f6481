-- The tokens of a line.
use Rattle.std.specs.Prelude.{◌≡◌, ℕ, ◌<◌, List, [], ◌∷◌, ◌++◌, length}
use Rattle.std.specs.Int.{IsInRange}
use Rattle.std.specs.List.{AllByRecursion}
use Rattle.lines.specs.Number.{Digit, Unlike}
use Rattle.lines.specs.declared.token.Token.{Token}

-- the byte is one of `a` to `z`
abbrev pub Letter : ℕ → Type 0
Letter b = IsInRange 97 122 b

-- w is the longest front of s whose bytes are all of one class, and rest comes after it
pub record Longest (C : ℕ → Type 0) (s w rest : List ℕ) : Type 0 where
  pub some : 0 < length w
  pub all : AllByRecursion C w
  pub ends : Unlike C rest
  pub split : s ≡ w ++ rest

-- b is a byte that begins neither a name nor a number nor a comment
pub record Mark (b : ℕ) : Type 0 where
  pub no_letter : ¬ Letter b
  pub no_digit : ¬ Digit b
  pub no_hash : ¬ (b ≡ 35)

-- s begins with this token, and rest comes after it; a comment goes to the end of its line
abbrev pub Fronts : List ℕ → Token → List ℕ → Type 0
Fronts s (Token.Name w) rest = Longest Letter s w.now rest
Fronts s (Token.Number w) rest = Longest Digit s w.now rest
Fronts s (Token.Comment w) rest = (s ≡ 35 ∷ w.now) × (rest ≡ [])
Fronts s (Token.Mark b) rest = (s ≡ b ∷ rest) × Mark b
