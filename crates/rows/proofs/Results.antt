-- What is known of a Result that was made an Option.
use Rattle.std.proofs.Common.{◌≡◌, Ok, Err, None, MatchResult, Result}
use Rattle.std.specs.Result.{result_ok}

-- what is said of its error holds where it has no value
pub no_value : {T E : Type 0} (r : Result T E) (P : T → Type 0) (Q : E → Type 0) (R : Type 0) → result_ok r ≡ None → MatchResult r P Q → ((e : E) → Q e → R) → R
no_value (Ok x) P Q R e h k = cc
no_value (Err x) P Q R e h k = k x h
