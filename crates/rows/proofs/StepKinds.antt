-- The kinds of steps by their codes.
use Rattle.std.proofs.Common.{◌≡◌, ℕ, ◌+◌, ◌-◌, ◌<◌, ◌≤◌, eqb, false, ◌⊎◌, inl, inr, ⊎_elim, List, length, get_or, map, Some, None, Option, sym, refl, ap, ◌∙◌, rules, arith}
use Rattle.std.specs.List.{range_with_len}
use Rattle.std.proofs.lemmas.Bool.{cases_lt, ne_eqb}
use Rattle.std.proofs.lemmas.List.{get_or-map, length-map}
use Rattle.std.proofs.lemmas.List.FromFn.{get_or-range_with_len}
use Rattle.std.proofs.lemmas.Bool.Decides.{nat_tests}
use Rattle.rows.specs.declared.kind.Kind.{Kind}
use Rattle.rows.specs.declared.step_kind.StepKind.{StepKind}
use Rattle.rows.specs.Kinds.{code, coded}
use Rattle.rows.specs.StepKinds.{step_code}

code_of : (c : ℕ) (κ : Kind) → coded c ≡ Some κ → code κ ≡ c
code_of c κ e = grind (arith, nat_tests)

swap_of : (c : ℕ) → 1 ≤ c → c ≤ 12 → coded c ≡ None → 12 ≡ c
swap_of c l h e = grind (arith, nat_tests)

-- each code from 1 to 12 is that of a kind
pub kind_at : (c : ℕ) → 1 ≤ c → c ≤ 12 → (κ : StepKind) × (step_code κ ≡ c)
kind_at c l h = by (coded c) refl
  where
    by : (o : Option Kind) → coded c ≡ o → (κ : StepKind) × (step_code κ ≡ c)
    by None e = (StepKind.Exchange, swap_of c l h e)
    by (Some κ) e = (StepKind.Gate κ, code_of c κ e)

-- a number that is no kind's code is no gate's, and not the exchange's
pub no_code : (c : ℕ) → ((κ : StepKind) → ¬ (step_code κ ≡ c)) → (eqb c 12 ≡ false) × (coded c ≡ None)
no_code c none = (ne_eqb c 12 (λ e. none StepKind.Exchange (sym e)), by (coded c) refl)
  where
    by : (o : Option Kind) → coded c ≡ o → coded c ≡ None
    by None e = e
    by (Some κ) e = absurd (none (StepKind.Gate κ) (code_of c κ e))

pub outside : (c : ℕ) → ((κ : StepKind) → ¬ (step_code κ ≡ c)) → (c < 1) ⊎ (12 < c)
outside c none = ⊎_elim
    (λ (l : c < 1). inl l)
    (λ (l : 1 ≤ c). ⊎_elim
    (λ (g : 12 < c). inr g)
    (λ (h : c ≤ 12). let at = kind_at c l h in absurd (none at.0 at.1))
    (cases_lt 12 c))
    (cases_lt c 1)

-- the codes are 1 to 12
pub code_bounds : (κ : StepKind) → (1 ≤ step_code κ) × (step_code κ ≤ 12)
code_bounds (StepKind.Gate κ) = search rules
code_bounds StepKind.Exchange = search rules

-- of the kinds in the order of their codes
module _ (all : List StepKind) (in_order : map step_code all ≡ range_with_len 1 12) where
  pub all_length : length all ≡ 12
  all_length = sym (length-map all step_code) ∙ ap length in_order

  pub at_index : (i : ℕ) (d : StepKind) → i < 12 → step_code (get_or all i d) ≡ i + 1
  at_index i d l =
      let len = all_length in
      sym (get_or-map step_code all i d 0 (omega arith)) ∙ ap (λ (xs : List ℕ). get_or xs i 0) in_order ∙ get_or-range_with_len 1 12 i 0 l ∙ (omega arith)

  -- each code stands at the index before it
  pub at_code : (κ d : StepKind) → step_code (get_or all (step_code κ - 1) d) ≡ step_code κ
  at_code κ d = let b = code_bounds κ in at_index (step_code κ - 1) d (omega arith) ∙ (omega arith)
