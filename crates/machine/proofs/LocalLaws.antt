-- Every local machine is lawful.
use Rattle.std.proofs.Common.{◌≡◌, ℕ, min, Bool, true, false, cond, ◌&&◌, sym, refl, ap, ◌∙◌, arith}
use Rattle.std.proofs.lemmas.Bool.Decides.{nat_tests}
use Rattle.std.proofs.lemmas.Bool.{cond-true, cond-false, and_from, and_left, and_right}
use Rattle.rows.specs.Steps.{Gate, one, two, kind_of, pair_below, fits, shares, relabel, trade}
use Rattle.machine.specs.Machines.{Lawful}
use Rattle.machine.specs.Local.{Cells, Rule, differ, wires, worked, crossed, local}
use Rattle.machine.proofs.Trading.{trade_trade, fits_trade, relabel_kind}

module _ {Cell : Type 0} where
  pub same_cells : (n : ℕ) (f g : ℕ → Cell) (s t : Bool) → ((w : ℕ) → f w ≡ g w) → s ≡ t →
      ◌≡◌ {A = Cells Cell} (record { width = n; cell = f; minus = s }) (record { width = n; cell = g; minus = t })
  same_cells n f g s t e d = λ i. record { width = n; cell = λ w. e w i; minus = d i }

differ_swap : (a b c : Bool) → differ (differ a b) c ≡ differ (differ a c) b
differ_swap true true true = refl
differ_swap true true false = refl
differ_swap true false true = refl
differ_swap true false false = refl
differ_swap false true true = refl
differ_swap false true false = refl
differ_swap false false true = refl
differ_swap false false false = refl

module _ {Cell : Type 0} (r : Rule Cell) where
  pub worked_width : (g : Gate) (u : Cells Cell) → (worked r g u).width ≡ u.width
  worked_width (one κ k a) u = refl
  worked_width (two κ k a b) u = refl

  worked_wires : (g : Gate) (u : Cells Cell) → wires (worked r g u) ≡ wires u
  worked_wires g u = ap (λ (n : ℕ). min n 64) (worked_width g u)

  worked_swap : (g e : Gate) (u : Cells Cell) → shares g e ≡ false → worked r e (worked r g u) ≡ worked r g (worked r e u)
  worked_swap (one κ k a) (one κ' k' c) u n = same_cells _ _ _ _ _ (λ w. grind (arith, nat_tests)) (grind (arith, nat_tests, differ_swap))
  worked_swap (one κ k a) (two κ' k' c d) u n = same_cells _ _ _ _ _ (λ w. grind (arith, nat_tests)) (grind (arith, nat_tests, differ_swap))
  worked_swap (two κ k a b) (one κ' k' c) u n = same_cells _ _ _ _ _ (λ w. grind (arith, nat_tests)) (grind (arith, nat_tests, differ_swap))
  worked_swap (two κ k a b) (two κ' k' c d) u n = same_cells _ _ _ _ _ (λ w. grind (arith, nat_tests)) (grind (arith, nat_tests, differ_swap))

  worked_crossed : (g : Gate) (a b : ℕ) (u : Cells Cell) → crossed a b (worked r g u) ≡ worked r (relabel (trade a b) g) (crossed a b u)
  worked_crossed (one κ k c) a b u = rw trade_trade (same_cells _ _ _ _ _ (λ w. grind (arith, nat_tests)) refl)
  worked_crossed (two κ k c d) a b u = simp trade_trade (same_cells _ _ _ _ _ (λ w. grind (arith, nat_tests)) refl)

  -- the guards
  pub does : (g : Gate) (u : Cells Cell) → r.known (kind_of g) ≡ true → fits (wires u) g ≡ true → (local r).gated g u ≡ worked r g u
  does g u h f = cond-true _ _ _ (and_from _ _ h f)

  idles : (g : Gate) (u : Cells Cell) → r.known (kind_of g) ≡ false → (local r).gated g u ≡ u
  idles g u h = cond-false _ _ _ (and_left _ _ h)

  trades : (a b : ℕ) (u : Cells Cell) → pair_below (wires u) a b ≡ true → (local r).traded a b u ≡ crossed a b u
  trades a b u f = cond-true _ _ _ f

  pub keeps_width : (g : Gate) (u : Cells Cell) → ((local r).gated g u).width ≡ u.width
  keeps_width g u = go (r.known (kind_of g) && fits (wires u) g)
    where
      go : (b : Bool) → (cond b (worked r g u) u).width ≡ u.width
      go true = worked_width g u
      go false = refl

  keeps_width_traded : (a b : ℕ) (u : Cells Cell) → ((local r).traded a b u).width ≡ u.width
  keeps_width_traded a b u = go (pair_below (wires u) a b)
    where
      go : (t : Bool) → (cond t (crossed a b u) u).width ≡ u.width
      go true = refl
      go false = refl

  first_law : (g e : Gate) (u : Cells Cell) → fits (wires u) g ≡ true → fits (wires u) e ≡ true → shares g e ≡ false →
      (local r).gated e ((local r).gated g u) ≡ (local r).gated g ((local r).gated e u)
  first_law g e u f f' n = go (r.known (kind_of g)) (r.known (kind_of e)) refl refl
    where
      go : (p q : Bool) → r.known (kind_of g) ≡ p → r.known (kind_of e) ≡ q → (local r).gated e ((local r).gated g u) ≡ (local r).gated g ((local r).gated e u)
      go false q i j = ap ((local r).gated e) (idles g u i) ∙ sym (idles g _ i)
      go true false i j = idles e _ j ∙ ap ((local r).gated g) (sym (idles e u j))
      go true true i j =
          ap ((local r).gated e) (does g u i f) ∙ does e (worked r g u) j (ap (λ n. fits n e) (worked_wires g u) ∙ f') ∙ worked_swap g e u n ∙
          sym (ap ((local r).gated g) (does e u j f') ∙ does g (worked r e u) i (ap (λ n. fits n g) (worked_wires e u) ∙ f))

  second_law : (g : Gate) (a b : ℕ) (u : Cells Cell) → fits (wires u) g ≡ true → pair_below (wires u) a b ≡ true →
      (local r).traded a b ((local r).gated g u) ≡ (local r).gated (relabel (trade a b) g) ((local r).traded a b u)
  second_law g a b u f h = go (r.known (kind_of g)) refl
    where
      go : (p : Bool) → r.known (kind_of g) ≡ p → (local r).traded a b ((local r).gated g u) ≡ (local r).gated (relabel (trade a b) g) ((local r).traded a b u)
      go false i = ap ((local r).traded a b) (idles g u i) ∙ sym (idles (relabel (trade a b) g) _ (ap r.known (relabel_kind (trade a b) g) ∙ i))
      go true i =
          ap ((local r).traded a b) (does g u i f) ∙ trades a b (worked r g u) (ap (λ n. pair_below n a b) (worked_wires g u) ∙ h) ∙ worked_crossed g a b u ∙
          sym (ap ((local r).gated (relabel (trade a b) g)) (trades a b u h) ∙
          does (relabel (trade a b) g) (crossed a b u) (ap r.known (relabel_kind (trade a b) g) ∙ i) (fits_trade (wires u) a b g h f))

  -- every local rule is lawful
  pub local_lawful : Lawful (local r)
  local_lawful = record {
    width = λ u. omega arith;
    wide_gated = λ g u. ap (λ (n : ℕ). min n 64) (keeps_width g u);
    wide_traded = λ a b u. ap (λ (n : ℕ). min n 64) (keeps_width_traded a b u);
    knows_gated = λ g u. refl;
    knows_traded = λ a b u. refl;
    unknown = idles;
    unfit = λ g u f. cond-false _ _ _ (and_right _ _ f);
    untraded = λ a b u f. cond-false _ _ _ f;
    unread = λ u w f. cond-false _ _ _ f;
    law_1 = first_law;
    law_2 = second_law;
  }
