-- The kinds of steps by their codes: 1 to 11 for the kinds of gates, 12 for the exchange of two wires.
use Rattle.std.specs.Prelude.{◌≡◌, ℕ, Bool, true, List, Some, None, codes, Option, Result, MatchResult, ◌==◌}
use Rattle.rows.specs.declared.kind.Kind.{Kind}
use Rattle.rows.specs.declared.kind.NoKind.{NoKind}
use Rattle.rows.specs.Kinds.{code, coded, double, name}
use Rattle.rows.specs.declared.step_kind.StepKind.{StepKind}

-- the name of a gate's kind, or of the exchange where there is none
abbrev pub name_or_swap : Option Kind → List ℕ
name_or_swap None = codes "swap"
name_or_swap (Some κ) = name κ

-- whether a gate's kind takes two wires; the exchange does
abbrev pub double_or_swap : Option Kind → Bool
double_or_swap None = true
double_or_swap (Some κ) = double κ

-- the name of a step's kind by its code, 1 to 12
abbrev pub step_name : ℕ → List ℕ
step_name c = name_or_swap (coded c)

-- a step of this kind stands on two wires: cnot, cz, crk, and the exchange
abbrev pub on_two : ℕ → Bool
on_two c = double_or_swap (coded c)

-- a step of this kind has a k: crk alone
abbrev pub has_k : ℕ → Bool
has_k c = c == 11

-- the code of a step's kind
abbrev pub step_code : StepKind → ℕ
step_code (StepKind.Gate κ) = code κ
step_code StepKind.Exchange = 12

-- the kind of this code, or the number itself where it is no kind's code
abbrev pub StepCoded : ℕ → Result StepKind NoKind → Type 0
StepCoded number r = MatchResult r (λ κ. step_code κ ≡ number) (λ e. ((κ : StepKind) → ¬ (step_code κ ≡ number)) × (e.0 ≡ number))
