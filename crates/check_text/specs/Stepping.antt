-- The steps of the lines after the line `steps`.
use Rattle.std.specs.Prelude.{◌≡◌, ℕ, ◌⊎◌, List, [], ◌∷◌, None, Ok, Err, vec_items, codes, Result}
use Rattle.std.specs.Global.{Vec}
use Rattle.rows.specs.declared.row.Step.{Step as StepRow}
use Rattle.text.specs.Reading.{Statement, statements_of}
use Rattle.step_text.specs.StepLines.{WritesStep}
use Rattle.audit.specs.declared.trial.Trial.{Trial}
use Rattle.check_text.specs.declared.error.CheckError.{CheckError}

-- rest comes after the first statement that is `steps`; nothing does where none is
abbrev pub AfterSteps : List Statement → List Statement → Type 0
AfterSteps [] rest = rest ≡ []
AfterSteps (s ∷ ss) rest = ((s.bytes ≡ codes "steps") × (rest ≡ ss)) ⊎ ((¬ (s.bytes ≡ codes "steps")) × AfterSteps ss rest)

-- the statements write these steps, one each, which are not offered yet
abbrev pub ReadAs : List Statement → List Trial → Type 0
ReadAs [] ts = ts ≡ []
ReadAs (s ∷ ss) [] = ⊥
ReadAs (s ∷ ss) (t ∷ ts) = WritesStep s.bytes t.step × (t.answer ≡ None) × ReadAs ss ts

-- the first of the statements that writes no step is on this line
abbrev pub UnreadableAt : List Statement → ℕ → Type 0
UnreadableAt [] n = ⊥
UnreadableAt (s ∷ ss) n =
    (((row : StepRow) → ¬ WritesStep s.bytes row) × (n ≡ s.number))
    ⊎ (((row : StepRow) × WritesStep s.bytes row) × UnreadableAt ss n)

-- what is read of the statements; nothing is said where memory runs out
abbrev pub ReadsAll : List Statement → Result (Vec Trial) CheckError → Type 0
ReadsAll ss (Ok v) = ReadAs ss (vec_items v)
ReadsAll ss (Err (CheckError.Unreadable n)) = UnreadableAt ss n
ReadsAll ss (Err CheckError.OutOfMemory) = Unit {0}

-- what is read of the lines after the line `steps`
abbrev pub ReadsSteps : List ℕ → Result (Vec Trial) CheckError → Type 0
ReadsSteps input r = (ss : List Statement) × AfterSteps (statements_of input) ss × ReadsAll ss r
