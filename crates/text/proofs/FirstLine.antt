-- The first line of a text.
use Rattle.std.proofs.Common.{◌≡◌, ℕ, ◌+◌, ◌-◌, ◌<◌, ◌≤◌, ◌⊎◌, false, eqb, List, [], ◌∷◌, ◌++◌, length, get_or, take, drop, sym, refl, ap, ◌∙◌, inl, inr, arith, length-append, take-append-drop, length-take-le, get_or-take}
use Rattle.std.specs.List.{AllByRecursion}
use Rattle.std.proofs.ByRecursion.{All-from_get_or}
use Rattle.std.proofs.lemmas.List.{append_assoc, take_rest, drop_more}
use Rattle.std.proofs.lemmas.Bool.Decides.{nat_tests}
use Rattle.text.specs.Reading.{onto, lines}
use Rattle.text.specs.Writing.{Unbroken, ended}
use Rattle.text.specs.Cutting.{FirstLine}

not_ten : (b : ℕ) → (b ≡ 10 → ⊥) → eqb b 10 ≡ false
not_ten b h = grind (arith, nat_tests)

pub line_then : (l after : List ℕ) → Unbroken l → lines (l ++ 10 ∷ after) ≡ l ∷ lines after
line_then [] after h = refl
line_then (b ∷ l) after h = rw (not_ten b h.0) (ap (onto b) (line_then l after h.1))

pub line_alone : (l : List ℕ) → 0 < length l → Unbroken l → lines l ≡ l ∷ []
line_alone [] some h = absurd (omega arith)
line_alone (b ∷ []) some h = rw (not_ten b h.0) refl
line_alone (b ∷ c ∷ l) some h = rw (not_ten b h.0) (ap (onto b) (line_alone (c ∷ l) (omega arith) h.1))

-- the lines of lines put together are these lines
pub lines_ended : (ls : List (List ℕ)) → AllByRecursion Unbroken ls → lines (ended ls) ≡ ls
lines_ended [] h = refl
lines_ended (l ∷ ls) h = ap lines (append_assoc l (10 ∷ []) (ended ls)) ∙ line_then l (ended ls) h.0 ∙ ap (λ k. l ∷ k) (lines_ended ls h.1)

-- no byte before index n is 10
abbrev pub Without : List ℕ → ℕ → Type 0
Without text n = (k : ℕ) → k < n → get_or text k 0 ≡ 10 → ⊥

front_unbroken : (text : List ℕ) (n : ℕ) → n ≤ length text → Without text n → Unbroken (take n text)
front_unbroken text n within before =
    All-from_get_or (λ b. ¬ (b ≡ 10)) (take n text) 0 (λ i lt e.
    let k : i < n = omega (arith, length-take-le n text within) in before i k (sym (get_or-take n text i 0 k) ∙ e))

-- a text cut at its first byte 10, and a text that has none
pub cut_at : (text : List ℕ) (n : ℕ) → n < length text → Without text n → get_or text n 0 ≡ 10 → FirstLine text (take n text) (take (length text - (n + 1)) (drop (n + 1) text))
cut_at text n within before ten = record {
  unbroken = front_unbroken text n (omega arith) before;
  is = inl (sym (take-append-drop n text) ∙ ap (λ l. take n text ++ l) (drop_more text n 0 within ∙ (λ i. ten i ∷ sym (take_rest text (n + 1)) i)));
}

pub uncut : (text : List ℕ) → Without text (length text) → FirstLine text text []
uncut text none = record { unbroken = All-from_get_or (λ b. ¬ (b ≡ 10)) text 0 none; is = inr (refl, refl) }

pub rest_shorter : (text line after : List ℕ) → 0 < length text → FirstLine text line after → length after < length text
rest_shorter text line after some f = by f.is
  where
    by : (text ≡ line ++ (10 ∷ after)) ⊎ ((text ≡ line) × (after ≡ [])) → length after < length text
    by (inl e) = omega (arith, ap length e, length-append line (10 ∷ after))
    by (inr e) = omega (arith, ap length e.1, some)

pub lines_first : (text line after : List ℕ) → 0 < length text → FirstLine text line after → lines text ≡ line ∷ lines after
lines_first text line after some f = by f.is
  where
    by : (text ≡ line ++ (10 ∷ after)) ⊎ ((text ≡ line) × (after ≡ [])) → lines text ≡ line ∷ lines after
    by (inl e) = ap lines e ∙ line_then line after f.unbroken
    by (inr e) = ap lines e.0 ∙ line_alone line (omega (arith, some, ap length e.0)) f.unbroken ∙ ap (λ l. line ∷ lines l) (sym e.1)
