-- What suits a kind: k, and what ends its line.
use Rattle.std.proofs.Common.{◌≡◌, ℕ, ◌≤◌, Bool, true, false, cond, ◌&&◌, eqb, ltb, [], ◌++◌, codes, decimal, sym, refl, ap, ◌∙◌, arith}
use Rattle.std.proofs.lemmas.Bool.Decides.{nat_tests}
use Rattle.rows.specs.declared.kind.Kind.{Kind}
use Rattle.rows.specs.Kinds.{double, turns, k_suits}
use Rattle.lines.specs.Grammar.{ending}

-- crk: k is 1 to 31, after a comma
abbrev in_range : ℕ → Bool
in_range k = ltb 0 k && ltb k 32

low : (k : ℕ) → in_range k ≡ true → 1 ≤ k
low k w = grind (arith, nat_tests)

high : (k : ℕ) → in_range k ≡ true → k ≤ 31
high k w = grind (arith, nat_tests)

pub crk_bounds : (κ : Kind) (k : ℕ) → turns κ ≡ true → k_suits κ k ≡ true → (1 ≤ k) × (k ≤ 31)
crk_bounds κ k e h = let w : in_range k ≡ true = ap (λ b. cond b (in_range k) (eqb k 0)) (sym e) ∙ h in (low k w, high k w)

pub crk_ending : (κ : Kind) (k : ℕ) → turns κ ≡ true → ending κ k ≡ codes "," ++ decimal k
crk_ending κ k e = ap (λ b. cond b (codes "," ++ decimal k) []) e

pub none_ending : (κ : Kind) (k : ℕ) → turns κ ≡ false → ending κ k ≡ []
none_ending κ k e = ap (λ b. cond b (codes "," ++ decimal k) []) e

pub none_zero : (κ : Kind) (k : ℕ) → turns κ ≡ false → k_suits κ k ≡ true → k ≡ 0
none_zero κ k e h = let w : eqb k 0 ≡ true = ap (λ b. cond b (in_range k) (eqb k 0)) (sym e) ∙ h in grind (arith, nat_tests)

-- a kind on one qubit is not crk
pub single_not : (κ : Kind) → double κ ≡ false → turns κ ≡ false
single_not Kind.X e = refl
single_not Kind.Y e = refl
single_not Kind.Z e = refl
single_not Kind.H e = refl
single_not Kind.S e = refl
single_not Kind.Sdag e = refl
single_not Kind.T e = refl
single_not Kind.Tdag e = refl
single_not Kind.Cnot e = refl
single_not Kind.Cz e = refl
single_not Kind.Crk e = e
