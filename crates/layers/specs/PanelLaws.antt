-- A panel over a lawful machine is lawful.
use Rattle.std.specs.Prelude.{◌≡◌, ℕ, true, false}
use Rattle.std.proofs.Common.{sym, ap, ◌∙◌, ⊎_elim}
use Rattle.std.proofs.lemmas.Bool.{le-ltb, ltb-false}
use Rattle.rows.specs.Steps.{Gate, fits, shares, pair_below, relabel, trade}
use Rattle.machine.specs.Machines.{Acts, Lawful}
use Rattle.machine.proofs.Trading.{relabel_kind}
use Rattle.machine.proofs.Renamed.{Good, unfit, pair_unfit, fit, pair_fits, shares_same, relabel_same, good_or_none, out, none_fits, none_trades}
use Rattle.layers.specs.Renaming.{named}
use Rattle.layers.specs.Panels.{Panelled, name, onto, panel}

module _ {S : Type 0} (m : Acts S) (laws : Lawful m) where
  -- a state below of the same width leaves the names as they are
  same_name : (s : Panelled S) (u : S) → m.wide u ≡ m.wide s.below → (a : ℕ) → name m (onto s u) a ≡ name m s a
  same_name s u e a = ap (λ (n : ℕ). named n s.names.list a) e

  same_names : (s : Panelled S) (u : S) → m.wide u ≡ m.wide s.below → name m (onto s u) ≡ name m s
  same_names s u e = λ i a. same_name s u e a i

  -- a second gate goes down under the same names
  gated_twice : (g e : Gate) (s : Panelled S) → (panel m).gated e ((panel m).gated g s) ≡ onto s (m.gated (relabel (name m s) e) (m.gated (relabel (name m s) g) s.below))
  gated_twice g e s = λ i. onto s (m.gated (relabel (same_names s (m.gated (relabel (name m s) g) s.below) (laws.wide_gated (relabel (name m s) g) s.below) i) e) (m.gated (relabel (name m s) g) s.below))

  unfit_down : (g : Gate) (s : Panelled S) → fits (m.wide s.below) (relabel (name m s) g) ≡ false → m.gated (relabel (name m s) g) s.below ≡ s.below
  unfit_down g s h = laws.unfit (relabel (name m s) g) s.below h

  first_law : (g e : Gate) (s : Panelled S) → fits (m.wide s.below) g ≡ true → fits (m.wide s.below) e ≡ true → shares g e ≡ false →
      (panel m).gated e ((panel m).gated g s) ≡ (panel m).gated g ((panel m).gated e s)
  first_law g e s h l n = gated_twice g e s ∙ ap (onto s) (⊎_elim
      (λ (good : Good (m.wide s.below) (name m s)).
      laws.law_1 (relabel (name m s) g) (relabel (name m s) e) s.below (fit _ _ good g h) (fit _ _ good e l) (shares_same _ _ good g e h l ∙ n))
      (λ (none : (a : ℕ) → name m s a ≡ 64).
      let p : m.gated (relabel (name m s) g) s.below ≡ s.below = unfit_down g s (none_fits _ _ (laws.width s.below) none g) in
      let q : m.gated (relabel (name m s) e) s.below ≡ s.below = unfit_down e s (none_fits _ _ (laws.width s.below) none e) in
      ap (m.gated (relabel (name m s) e)) p ∙ q ∙ sym (ap (m.gated (relabel (name m s) g)) q ∙ p))
      (good_or_none (m.wide s.below) s.names.list s.names.inside s.names.once))
      ∙ sym (gated_twice e g s)

  second_law : (g : Gate) (a b : ℕ) (s : Panelled S) → fits (m.wide s.below) g ≡ true → pair_below (m.wide s.below) a b ≡ true →
      (panel m).traded a b ((panel m).gated g s) ≡ (panel m).gated (relabel (trade a b) g) ((panel m).traded a b s)
  second_law g a b s h l =
      (λ i. onto s (m.traded (gate_names a i) (gate_names b i) (m.gated (relabel (name m s) g) s.below)))
      ∙ ap (onto s) (⊎_elim
      (λ (good : Good (m.wide s.below) (name m s)).
      laws.law_2 (relabel (name m s) g) (name m s a) (name m s b) s.below (fit _ _ good g h) (pair_fits _ _ good a b l)
      ∙ ap (λ (e : Gate). m.gated e (m.traded (name m s a) (name m s b) s.below)) (relabel_same _ _ good a b g l h))
      (λ (none : (a : ℕ) → name m s a ≡ 64).
      let p : m.gated (relabel (name m s) g) s.below ≡ s.below = unfit_down g s (none_fits _ _ (laws.width s.below) none g) in
      let q : m.traded (name m s a) (name m s b) s.below ≡ s.below = laws.untraded (name m s a) (name m s b) s.below (none_trades _ _ (laws.width s.below) none a b) in
      ap (m.traded (name m s a) (name m s b)) p ∙ q ∙ sym (ap (m.gated (relabel (name m s) (relabel (trade a b) g))) q ∙ unfit_down (relabel (trade a b) g) s (none_fits _ _ (laws.width s.below) none (relabel (trade a b) g))))
      (good_or_none (m.wide s.below) s.names.list s.names.inside s.names.once))
      ∙ sym (λ i. onto s (m.gated (relabel (same_names s (m.traded (name m s a) (name m s b) s.below) (laws.wide_traded (name m s a) (name m s b) s.below) i) (relabel (trade a b) g)) (m.traded (name m s a) (name m s b) s.below)))
    where
      gate_names : (c : ℕ) → name m (onto s (m.gated (relabel (name m s) g) s.below)) c ≡ name m s c
      gate_names c = same_name s (m.gated (relabel (name m s) g) s.below) (laws.wide_gated (relabel (name m s) g) s.below) c

  pub panel_lawful : Lawful (panel m)
  panel_lawful = record {
    width = λ s. laws.width s.below;
    wide_gated = λ g s. laws.wide_gated (relabel (name m s) g) s.below;
    wide_traded = λ a b s. laws.wide_traded (name m s a) (name m s b) s.below;
    knows_gated = λ g s. laws.knows_gated (relabel (name m s) g) s.below;
    knows_traded = λ a b s. laws.knows_traded (name m s a) (name m s b) s.below;
    unknown = λ g s h. ap (onto s) (laws.unknown (relabel (name m s) g) s.below (ap (m.knows s.below) (relabel_kind (name m s) g) ∙ h));
    unfit = λ g s h. ap (onto s) (laws.unfit (relabel (name m s) g) s.below (unfit (m.wide s.below) (name m s) (out (m.wide s.below) s.names.list (laws.width s.below)) g h));
    untraded = λ a b s h. ap (onto s) (laws.untraded (name m s a) (name m s b) s.below (pair_unfit (m.wide s.below) (name m s) (out (m.wide s.below) s.names.list (laws.width s.below)) a b h));
    unread = λ s w h. laws.unread s.below (name m s w) (le-ltb (name m s w) (m.wide s.below) ((out (m.wide s.below) s.names.list (laws.width s.below)).past w (ltb-false w (m.wide s.below) h)));
    law_1 = first_law;
    law_2 = second_law;
  }
