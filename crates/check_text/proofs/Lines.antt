-- The lines before the line `steps`.
use Rattle.std.proofs.Common.{◌≡◌, ℕ, ◌+◌, ◌-◌, ◌<◌, ◌⊎◌, List, [], ◌∷◌, ◌++◌, length, take, codes, sym, ap, ◌∙◌, subst, inl, inr, arith, length-append}
use Rattle.std.specs.List.{AllByRecursion}
use Rattle.std.proofs.ByRecursion.{All-push}
use Rattle.std.proofs.lemmas.List.{append_assoc, take_at, flat_map_more}
use Rattle.text.specs.Reading.{lines}
use Rattle.text.specs.Writing.{Unbroken, ended}
use Rattle.text.specs.Cutting.{FirstLine}
use Rattle.text.proofs.FirstLine.{lines_ended, lines_first}
use Rattle.check_text.specs.Cutting.{NoneSteps, Divided, Cut}

-- the lines passed so far, none of which is `steps`; they are put together at the front of the input as long as some of it is left
pub record Passed (input rest : List ℕ) : Type 0 where
  pub ls : List (List ℕ)
  pub none : NoneSteps ls
  pub unbroken : AllByRecursion Unbroken ls
  pub whole : lines input ≡ ls ++ lines rest
  pub front : 0 < length rest → input ≡ ended ls ++ rest

module _ (input rest line after : List ℕ) (some : 0 < length rest) (p : Passed input rest) (f : FirstLine rest line after) where
  next_whole : lines input ≡ p.ls ++ (line ∷ lines after)
  next_whole = p.whole ∙ ap (λ l. p.ls ++ l) (lines_first rest line after some f)

  next_front : 0 < length after → input ≡ ended (p.ls ++ line ∷ []) ++ after
  next_front h = by f.is
    where
      by : (rest ≡ line ++ (10 ∷ after)) ⊎ ((rest ≡ line) × (after ≡ [])) → input ≡ ended (p.ls ++ line ∷ []) ++ after
      by (inl e) =
          p.front some ∙ ap (λ l. ended p.ls ++ l) (e ∙ sym (append_assoc line (10 ∷ []) after)) ∙ sym (append_assoc (ended p.ls) (line ++ 10 ∷ []) after)
          ∙ ap (λ l. l ++ after) (flat_map_more (λ l. l ++ 10 ∷ []) [] p.ls line)
      by (inr e) = absurd (omega (arith, h, ap length e.1))

  pub passed_more : ¬ (line ≡ codes "steps") → Passed input after
  passed_more other = record {
    ls = p.ls ++ line ∷ [];
    none = All-push (λ l. ¬ (l ≡ codes "steps")) p.ls line p.none other;
    unbroken = All-push Unbroken p.ls line p.unbroken f.unbroken;
    whole = next_whole ∙ sym (append_assoc p.ls (line ∷ []) (lines after));
    front = next_front;
  }

  front_long : length input ≡ length (ended p.ls) + length rest
  front_long = ap length (p.front some) ∙ length-append (ended p.ls) rest

  front_taken : take (length input - length rest) input ≡ ended p.ls
  front_taken = ap (take (length input - length rest)) (p.front some) ∙ take_at (ended p.ls) rest (length input - length rest) (omega (arith, front_long))

  divided : line ≡ codes "steps" → Divided input (ended p.ls) after
  divided is = record {
    bytes = by f.is;
    whole = next_whole ∙ (λ i. sym (lines_ended p.ls p.unbroken) i ++ (is i ∷ lines after));
  }
    where
      by : (rest ≡ line ++ (10 ∷ after)) ⊎ ((rest ≡ line) × (after ≡ [])) → (input ≡ ended p.ls ++ (codes "steps\n" ++ after)) ⊎ ((input ≡ ended p.ls ++ codes "steps") × (after ≡ []))
      by (inl e) = inl (p.front some ∙ ap (λ l. ended p.ls ++ l) (e ∙ ap (λ l. l ++ (10 ∷ after)) is))
      by (inr e) = inr (p.front some ∙ ap (λ l. ended p.ls ++ l) (e.0 ∙ is), e.1)

  pub cut_found : line ≡ codes "steps" → (n : ℕ) → n ≡ length input - length rest → Cut input (take n input)
  cut_found is n e =
      subst (Cut input) (sym (ap (λ k. take k input) e ∙ front_taken))
      (record { none = subst NoneSteps (sym (lines_ended p.ls p.unbroken)) p.none; is = inr (after, divided is) })
