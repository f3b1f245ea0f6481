-- What one gate of a local machine does to each cell.
use Rattle.std.proofs.Common.{◌≡◌, ℕ, ◌<◌, min, Bool, true, false, cond, ◌&&◌, List, [], ◌∷◌, map, refl, ap, ◌∙◌, arith}
use Rattle.std.proofs.lemmas.Bool.Decides.{nat_tests}
use Rattle.std.proofs.lemmas.Bool.{cond-true, cond-false, and_right, eq-eqb}
use Rattle.rows.specs.declared.kind.Kind.{Kind}
use Rattle.rows.specs.Steps.{Gate, one, two, gate, kind_of, fits, has}
use Rattle.machine.specs.Machines.{run}
use Rattle.machine.specs.Local.{Cells, Rule, wires, worked, local}
use Rattle.machine.proofs.LocalLaws.{does, keeps_width}

-- a wire of a gate that fits is below the width
pub has_below : (n : ℕ) (g : Gate) (w : ℕ) → fits n g ≡ true → has g w ≡ true → w < n
has_below n (one κ k a) w f h = grind (arith, nat_tests)
has_below n (two κ k a b) w f h = grind (arith, nat_tests)

module _ {C : Type 0} (r : Rule C) where
  pub gated_unfit : (g : Gate) (u : Cells C) → fits (wires u) g ≡ false → (local r).gated g u ≡ u
  gated_unfit g u f = cond-false _ _ _ (and_right _ _ f)

  pub keeps_wires : (g : Gate) (u : Cells C) (n : ℕ) → wires u ≡ n → wires ((local r).gated g u) ≡ n
  keeps_wires g u n e = ap (λ (k : ℕ). min k 64) (keeps_width r g u) ∙ e

  pub run_wires : (n : ℕ) (gates : List Gate) (u : Cells C) → wires u ≡ n → wires (run (local r) (map gate gates) u) ≡ n
  run_wires n [] u e = e
  run_wires n (g ∷ gates) u e = run_wires n gates ((local r).gated g u) (keeps_wires g u n e)

  worked_off : (g : Gate) (u : Cells C) (w : ℕ) → has g w ≡ false → (worked r g u).cell w ≡ u.cell w
  worked_off (one κ k a) u w h = cond-false _ _ _ h
  worked_off (two κ k a b) u w h = grind (arith, nat_tests)

  -- the cells of other wires stay
  pub gated_off : (g : Gate) (u : Cells C) (w : ℕ) → has g w ≡ false → ((local r).gated g u).cell w ≡ u.cell w
  gated_off g u w h = by (r.known (kind_of g) && fits (wires u) g)
    where
      by : (x : Bool) → (cond x (worked r g u) u).cell w ≡ u.cell w
      by true = worked_off g u w h
      by false = refl

  -- the cells of the gate's own wires
  pub at_one : (κ : Kind) (k a : ℕ) (u : Cells C) → r.known κ ≡ true → fits (wires u) (one κ k a) ≡ true →
      ((local r).gated (one κ k a) u).cell a ≡ (r.single κ k (u.cell a)).cell
  at_one κ k a u h f = ap (λ (v : Cells C). v.cell a) (does r (one κ k a) u h f) ∙ cond-true _ _ _ (eq-eqb a a refl)

  pub at_first : (κ : Kind) (k a b : ℕ) (u : Cells C) → r.known κ ≡ true → fits (wires u) (two κ k a b) ≡ true →
      ((local r).gated (two κ k a b) u).cell a ≡ (r.double κ k (u.cell a) (u.cell b)).first
  at_first κ k a b u h f = ap (λ (v : Cells C). v.cell a) (does r (two κ k a b) u h f) ∙ cond-true _ _ _ (eq-eqb a a refl)

  pub at_second : (κ : Kind) (k a b : ℕ) (u : Cells C) → r.known κ ≡ true → fits (wires u) (two κ k a b) ≡ true →
      ((local r).gated (two κ k a b) u).cell b ≡ (r.double κ k (u.cell a) (u.cell b)).second
  at_second κ k a b u h f = ap (λ (v : Cells C). v.cell b) (does r (two κ k a b) u h f) ∙ grind (arith, nat_tests)
