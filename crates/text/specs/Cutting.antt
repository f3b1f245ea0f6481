-- The first line of a text.
use Rattle.std.specs.Prelude.{◌≡◌, ℕ, ◌⊎◌, List, [], ◌∷◌, ◌++◌}
use Rattle.text.specs.Writing.{Unbroken}

-- line is the first line of the text, without its byte 10, which it may lack if nothing comes after it
pub record FirstLine (text line after : List ℕ) : Type 0 where
  pub unbroken : Unbroken line
  pub is : (text ≡ line ++ (10 ∷ after)) ⊎ ((text ≡ line) × (after ≡ []))
