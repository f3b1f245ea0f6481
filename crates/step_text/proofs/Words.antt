-- The name of a kind at the front of a text.
use Rattle.std.proofs.Common.{◌≡◌, ℕ, ◌<◌, List, ◌∷◌, ◌++◌, length, get_or, codes, sym, refl, ap, ◌∙◌, subst, arith, lit≤}
use Rattle.std.specs.List.{AllByRecursion}
use Rattle.std.proofs.lemmas.List.{append_cancel_left}
use Rattle.lines.specs.Number.{Digit}
use Rattle.lines.specs.Tokens.{Letter, Longest, Fronts}
use Rattle.lines.specs.declared.token.Token.{Token}
use Rattle.lines.proofs.Runs.{longest_same, longest_first}
use Rattle.rows.specs.declared.kind.Kind.{Kind}
use Rattle.rows.specs.declared.step_kind.StepKind.{StepKind}
use Rattle.rows.specs.StepKinds.{step_code, step_name}
use Rattle.step_text.specs.StepLines.{named}

-- a name is made of letters, and has one at least
letters : (κ : StepKind) → AllByRecursion Letter (step_name (step_code κ))
letters (StepKind.Gate Kind.X) = ((lit≤ tt, lit≤ tt), tt)
letters (StepKind.Gate Kind.Y) = ((lit≤ tt, lit≤ tt), tt)
letters (StepKind.Gate Kind.Z) = ((lit≤ tt, lit≤ tt), tt)
letters (StepKind.Gate Kind.H) = ((lit≤ tt, lit≤ tt), tt)
letters (StepKind.Gate Kind.S) = ((lit≤ tt, lit≤ tt), tt)
letters (StepKind.Gate Kind.Sdag) = ((lit≤ tt, lit≤ tt), ((lit≤ tt, lit≤ tt), ((lit≤ tt, lit≤ tt), ((lit≤ tt, lit≤ tt), tt))))
letters (StepKind.Gate Kind.T) = ((lit≤ tt, lit≤ tt), tt)
letters (StepKind.Gate Kind.Tdag) = ((lit≤ tt, lit≤ tt), ((lit≤ tt, lit≤ tt), ((lit≤ tt, lit≤ tt), ((lit≤ tt, lit≤ tt), tt))))
letters (StepKind.Gate Kind.Cnot) = ((lit≤ tt, lit≤ tt), ((lit≤ tt, lit≤ tt), ((lit≤ tt, lit≤ tt), ((lit≤ tt, lit≤ tt), tt))))
letters (StepKind.Gate Kind.Cz) = ((lit≤ tt, lit≤ tt), ((lit≤ tt, lit≤ tt), tt))
letters (StepKind.Gate Kind.Crk) = ((lit≤ tt, lit≤ tt), ((lit≤ tt, lit≤ tt), ((lit≤ tt, lit≤ tt), tt)))
letters StepKind.Exchange = ((lit≤ tt, lit≤ tt), ((lit≤ tt, lit≤ tt), ((lit≤ tt, lit≤ tt), ((lit≤ tt, lit≤ tt), tt))))

some_letter : (κ : StepKind) → 0 < length (step_name (step_code κ))
some_letter (StepKind.Gate Kind.X) = omega arith
some_letter (StepKind.Gate Kind.Y) = omega arith
some_letter (StepKind.Gate Kind.Z) = omega arith
some_letter (StepKind.Gate Kind.H) = omega arith
some_letter (StepKind.Gate Kind.S) = omega arith
some_letter (StepKind.Gate Kind.Sdag) = omega arith
some_letter (StepKind.Gate Kind.T) = omega arith
some_letter (StepKind.Gate Kind.Tdag) = omega arith
some_letter (StepKind.Gate Kind.Cnot) = omega arith
some_letter (StepKind.Gate Kind.Cz) = omega arith
some_letter (StepKind.Gate Kind.Crk) = omega arith
some_letter StepKind.Exchange = omega arith

-- before a space it is the longest run of letters
name_run : (κ : StepKind) (t rest : List ℕ) → t ≡ step_name (step_code κ) ++ (codes " " ++ rest) → Longest Letter t (step_name (step_code κ)) (codes " " ++ rest)
name_run κ t rest e = record { some = some_letter κ; all = letters κ; ends = λ l. omega (arith, l.0); split = e }

-- only the token of a name begins with a letter
name_token : (s : List ℕ) (t : Token) (after w rest : List ℕ) → Fronts s t after → Longest Letter s w rest → ((d : _) → ¬ (t ≡ Token.Name d)) → ⊥
name_token s (Token.Name d) after w rest f l other = other d refl
name_token s (Token.Number d) after w rest f l other = omega (arith, longest_first Digit _ _ _ f, longest_first Letter _ _ _ l)
name_token s (Token.Comment d) after w rest f l other = omega (arith, ap (λ (x : List ℕ). get_or x 0 0) f.0, longest_first Letter _ _ _ l)
name_token s (Token.Mark m) after w rest f l other = f.1.no_letter (subst Letter (ap (λ (x : List ℕ). get_or x 0 0) f.0) (longest_first Letter _ _ _ l))

-- what comes after the first space of a text with a name
cut : (s t : List ℕ) (κ : StepKind) (rest : List ℕ) → s ≡ 32 ∷ t → s ≡ named (step_code κ) rest → Longest Letter t (step_name (step_code κ)) (codes " " ++ rest)
cut s t κ rest p e = name_run κ t rest (append_cancel_left (codes " ") t _ (sym p ∙ e))

pub no_word : (s t : List ℕ) (k : Token) (after : List ℕ) (κ : StepKind) (rest : List ℕ) → s ≡ 32 ∷ t → Fronts t k after → s ≡ named (step_code κ) rest → ((d : _) → ¬ (k ≡ Token.Name d)) → ⊥
no_word s t k after κ rest p f e other = name_token t k after _ _ f (cut s t κ rest p e) other

-- the word is the name, and a space comes after it
pub word_and_space : (s t w after : List ℕ) (κ : StepKind) (rest : List ℕ) → s ≡ 32 ∷ t → Longest Letter t w after → s ≡ named (step_code κ) rest → (w ≡ step_name (step_code κ)) × (after ≡ 32 ∷ rest)
word_and_space s t w after κ rest p l e = longest_same Letter t w _ after _ l (cut s t κ rest p e)
