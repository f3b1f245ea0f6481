-- The part of the input before the line `steps`.
use Rattle.std.specs.Prelude.{◌≡◌, ℕ, ◌⊎◌, List, [], ◌∷◌, ◌++◌, codes}
use Rattle.std.specs.List.{AllByRecursion}
use Rattle.text.specs.Reading.{lines}

-- none of the lines is `steps`
abbrev pub NoneSteps : List (List ℕ) → Type 0
NoneSteps ls = AllByRecursion (λ l. ¬ (l ≡ codes "steps")) ls

-- before comes before a line `steps` of the input, and after comes after that line; the line may lack its byte 10 if nothing does
pub record Divided (input before after : List ℕ) : Type 0 where
  pub bytes : (input ≡ before ++ (codes "steps\n" ++ after)) ⊎ ((input ≡ before ++ codes "steps") × (after ≡ []))
  pub whole : lines input ≡ lines before ++ (codes "steps" ∷ lines after)

-- before is all before the first line that is `steps`, or all of the input where no line is
pub record Cut (input before : List ℕ) : Type 0 where
  pub none : NoneSteps (lines before)
  pub is : (before ≡ input) ⊎ ((after : List ℕ) × Divided input before after)
