-- The statements of a text, line by line.
use Rattle.std.proofs.Common.{◌≡◌, ℕ, ◌<◌, false, eqb, List, [], ◌∷◌, length, get_or, sym, refl, ap, ◌∙◌, arith}
use Rattle.std.proofs.lemmas.Bool.Decides.{nat_tests}
use Rattle.lines.specs.declared.token.Token.{Token}
use Rattle.lines.specs.Number.{Digit}
use Rattle.lines.specs.Tokens.{Letter, Fronts}
use Rattle.lines.proofs.Runs.{longest_first, longest_some}
use Rattle.text.specs.Reading.{skipped}

-- a line that begins with another byte than # is not skipped
pub begins_other : (s : List ℕ) → 0 < length s → ¬ (get_or s 0 0 ≡ 35) → skipped s ≡ false
begins_other [] some other = absurd (omega arith)
begins_other (b ∷ s) some other = not_hash b other
  where
    not_hash : (b : ℕ) → ¬ (b ≡ 35) → eqb b 35 ≡ false
    not_hash b other = grind (arith, nat_tests)

-- a line that begins with a token that is no comment is not skipped
pub token_unskipped : (s : List ℕ) (t : Token) (after : List ℕ) → Fronts s t after → ((w : _) → ¬ (t ≡ Token.Comment w)) → skipped s ≡ false
token_unskipped s (Token.Name w) after f other = begins_other s (longest_some Letter _ _ _ f) (λ e. omega (arith, longest_first Letter _ _ _ f))
token_unskipped s (Token.Number w) after f other = begins_other s (longest_some Digit _ _ _ f) (λ e. omega (arith, longest_first Digit _ _ _ f))
token_unskipped s (Token.Comment w) after f other = absurd (other w refl)
token_unskipped s (Token.Mark b) after f other =
    begins_other s (omega (arith, ap length f.0)) (λ e. f.1.no_hash (sym (ap (λ l. get_or l 0 0) f.0) ∙ e))
