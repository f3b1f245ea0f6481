-- Numbers at the front of a text, up to a limit.
use Rattle.std.proofs.Common.{◌≡◌, ℕ, ◌+◌, ◌-◌, ◌*◌, ◌^◌, ◌<◌, ◌≤◌, List, [], ◌∷◌, ◌++◌, length, get_or, take, drop, decimal, sym, refl, ap, ◌∙◌, subst, ⊎_elim, arith, take-append-drop}
use Rattle.std.specs.Str.Parse.{digits_value, digits_value_after}
use Rattle.std.specs.Char.{digit_value}
use Rattle.std.specs.List.{AllByRecursion}
use Rattle.std.proofs.lemmas.Fmt.{decimal-digits_value, digits_value-decimal, digits_decimal, decimal_nonempty, first_decimal, decimal_digit, decimal_injective}
use Rattle.std.proofs.lemmas.Int.Digits.{digits_value_more}
use Rattle.std.proofs.ByRecursion.{All-get_or, All-from_get_or}
use Rattle.std.proofs.lemmas.List.{append-nil}
use Rattle.std.proofs.lemmas.Str.Parse.{IsNumeralModel, numerals_by_value, tells_by_index}
use Rattle.std.proofs.lemmas.Bool.{cases_lt}
use Rattle.std.proofs.lemmas.Bool.Decides.{nat_tests}
use Rattle.lines.specs.Number.{Digit, Begins}
use Rattle.lines.specs.declared.token.Token.{Token}
use Rattle.lines.specs.Tokens.{Letter, Longest, Fronts}
use Rattle.lines.proofs.Runs.{longest_same, longest_first}

abbrev pub AllDigits : List ℕ → Type 0
AllDigits ds = (i : ℕ) → i < length ds → Digit (get_or ds i 0)

pub own : IsNumeralModel AllDigits (digits_value 10)
own = numerals_by_value _ tells_by_index

pub by_index : (ds : List ℕ) → AllByRecursion Digit ds → AllDigits ds
by_index ds all i lt = All-get_or Digit ds i 0 lt all

-- more digits write no smaller number
after_ge : (n : ℕ) (ds : List ℕ) → n ≤ digits_value_after 10 n ds
after_ge n [] = omega arith
after_ge n (c ∷ cs) = omega (arith, after_ge (n * 10 + digit_value c) cs)

after_append : (n : ℕ) (xs ys : List ℕ) → digits_value_after 10 n (xs ++ ys) ≡ digits_value_after 10 (digits_value_after 10 n xs) ys
after_append n [] ys = refl
after_append n (c ∷ cs) ys = after_append (n * 10 + digit_value c) cs ys

pub value_front : (ds : List ℕ) (i : ℕ) → digits_value 10 (take i ds) ≤ digits_value 10 ds
value_front ds i =
    let whole : digits_value 10 ds ≡ digits_value_after 10 (digits_value 10 (take i ds)) (drop i ds) = ap (digits_value 10) (sym (take-append-drop i ds)) ∙ after_append 0 (take i ds) (drop i ds) in
    omega (arith, whole, after_ge (digits_value 10 (take i ds)) (drop i ds))

digit_is : (c : ℕ) → Digit c → digit_value c ≡ c - 48
digit_is c h = grind (arith, nat_tests)

pub value_next : (ds : List ℕ) (i : ℕ) → AllByRecursion Digit ds → i < length ds → digits_value 10 (take (i + 1) ds) ≡ digits_value 10 (take i ds) * 10 + (get_or ds i 0 - 48)
value_next ds i all h = digits_value_more 10 ds i h ∙ ap (λ d. digits_value 10 (take i ds) * 10 + d) (digit_is (get_or ds i 0) (by_index ds all i h))

-- the value with one digit more
pub value_step : (ds : List ℕ) (i v : ℕ) → AllByRecursion Digit ds → i < length ds → v ≡ digits_value 10 (take i ds) → v * 10 + (get_or ds i 0 - 48) ≡ digits_value 10 (take (i + 1) ds)
value_step ds i v all lt e = ap (λ (n : ℕ). n * 10 + (get_or ds i 0 - 48)) e ∙ sym (value_next ds i all lt)

-- digits with no leading zero are a number
pub begins : (limit : ℕ) (s w rest : List ℕ) → limit < 2 ^ 64 → Longest Digit s w rest → digits_value 10 w ≤ limit → (get_or w 0 0 ≡ 48 → length w ≡ 1) → Begins limit s (digits_value 10 w) rest
begins limit s w rest room l small lead =
    record { small = small; ended = l.ends; split = l.split ∙ ap (λ d. d ++ rest) (sym (decimal-digits_value own w (by_index w l.all) l.some lead (omega arith))) }

-- no number of two digits or more begins with 0
pub number_lead : (v : ℕ) → v < 2 ^ 64 → get_or (decimal v) 0 0 ≡ 48 → length (decimal v) ≡ 1
number_lead v big zero_first =
    ⊎_elim (λ pos. absurd (omega (arith, first_decimal v pos big))) (λ none. ap length (decimal_digit v (omega arith))) (cases_lt 0 v)

pub number_value : (v : ℕ) → v < 2 ^ 64 → digits_value 10 (decimal v) ≡ v
number_value v big = digits_value-decimal own v big

-- a number is the longest run of digits
pub begins_run : (limit : ℕ) (s : List ℕ) (v : ℕ) (rest : List ℕ) → limit < 2 ^ 64 → Begins limit s v rest → Longest Digit s (decimal v) rest
begins_run limit s v rest room b =
    let big : v < 2 ^ 64 = omega (arith, b.small) in
    record { some = decimal_nonempty v big; all = All-from_get_or Digit (decimal v) 0 (digits_decimal own v big); ends = b.ended; split = b.split }

-- a text begins with at most one number
pub begins_same : (limit : ℕ) (s : List ℕ) (v w : ℕ) (r t : List ℕ) → limit < 2 ^ 64 → Begins limit s v r → Begins limit s w t → (v ≡ w) × (r ≡ t)
begins_same limit s v w r t room b d =
    let same = longest_same Digit s _ _ r t (begins_run limit s v r room b) (begins_run limit s w t room d) in
    (decimal_injective v w (omega (arith, b.small)) (omega (arith, d.small)) same.0, same.1)

-- a number with nothing after it
pub whole : (limit : ℕ) (s : List ℕ) (v : ℕ) → v ≤ limit → s ≡ decimal v → Begins limit s v []
whole limit s v small e = record { small = small; ended = tt; split = e ∙ sym (append-nil (decimal v)) }

pub same_number : (v w : ℕ) → v < 10000 → w < 10000 → decimal v ≡ decimal w → v ≡ w
same_number v w h k e = decimal_injective v w (omega arith) (omega arith) e

-- only the token of a number begins with a digit
pub number_token : (s : List ℕ) (t : Token) (after w rest : List ℕ) → Fronts s t after → Longest Digit s w rest → ((d : _) → ¬ (t ≡ Token.Number d)) → ⊥
number_token s (Token.Number d) after w rest f l other = other d refl
number_token s (Token.Name d) after w rest f l other = omega (arith, longest_first Letter _ _ _ f, longest_first Digit _ _ _ l)
number_token s (Token.Comment d) after w rest f l other = omega (arith, ap (λ x. get_or x 0 0) f.0, longest_first Digit _ _ _ l)
number_token s (Token.Mark m) after w rest f l other = f.1.no_digit (subst Digit (ap (λ x. get_or x 0 0) f.0) (longest_first Digit _ _ _ l))
