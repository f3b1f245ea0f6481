-- Which kind a number is the code of, as an answer.
use Rattle.std.specs.Prelude.{◌≡◌, ℕ, List, ◌++◌, codes, decimal, Some, None, Result, MatchResult}
use Rattle.rows.specs.declared.kind.Kind.{Kind}
use Rattle.rows.specs.declared.kind.NoKind.{NoKind}
use Rattle.rows.specs.Kinds.{coded}

-- the kind of this code, or the number itself where it is no kind's code
abbrev pub KindCoded : ℕ → Result Kind NoKind → Type 0
KindCoded number r = MatchResult r (λ κ. coded number ≡ Some κ) (λ e. (coded number ≡ None) × (e.0 ≡ number))

-- the words for a number that is no kind's code
abbrev pub no_kind_text : NoKind → List ℕ
no_kind_text e = codes "no kind has code " ++ decimal e.0
