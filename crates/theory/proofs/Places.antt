-- Gates at the places of their qubits, and places after an exchange.
use Rattle.std.proofs.Common.{◌≡◌, ℕ, ◌<◌, ◌≤◌, true, false, eqb, List, length, get_or, sym, ap, ◌∙◌, ap₂, arith}
use lib.ListN.{length-map}
use Rattle.std.proofs.lemmas.Bool.Decides.{nat_tests}
use Rattle.std.proofs.lemmas.Bool.{or_parts, or_from, eqb-false, ne_eqb}
use Rattle.std.proofs.lemmas.List.{get_or-map}
use Rattle.rows.specs.declared.kind.Kind.{Kind}
use Rattle.rows.specs.Steps.{Gate, one, two, pair_below, fits, has, shares, relabel, trade}
use Rattle.machine.proofs.Trading.{trade_trade}
use Rattle.sheet.specs.Sheets.{at, places_traded}
use Rattle.sheet.specs.Runs.{GoodPlaces}

pub shares_self : (g : Gate) → shares g g ≡ true
shares_self (one κ k a) = grind (arith, nat_tests)
shares_self (two κ k a b) = grind (arith, nat_tests)

-- gates with a place in common have one after relabelling
apart_back : (f : ℕ → ℕ) (a c : ℕ) → eqb (f a) (f c) ≡ false → eqb a c ≡ false
apart_back f a c h = ne_eqb a c (λ e. eqb-false (f a) (f c) h (ap f e))

has_back : (f : ℕ → ℕ) (g : Gate) (c : ℕ) → has (relabel f g) (f c) ≡ false → has g c ≡ false
has_back f (one κ k a) c h = apart_back f a c h
has_back f (two κ k a b) c h = let (i, j) = or_parts (eqb (f a) (f c)) (eqb (f b) (f c)) h in or_from _ _ (apart_back f a c i) (apart_back f b c j)

pub shares_back : (f : ℕ → ℕ) (g e : Gate) → shares (relabel f g) (relabel f e) ≡ false → shares g e ≡ false
shares_back f g (one κ k c) h = has_back f g c h
shares_back f g (two κ k c d) h = let (i, j) = or_parts (has (relabel f g) (f c)) (has (relabel f g) (f d)) h in or_from _ _ (has_back f g c i) (has_back f g d j)

module _ (N n : ℕ) (q : List ℕ) (good : GoodPlaces N n q) where
  apart : (a c : ℕ) → a < n → c < n → eqb a c ≡ false → eqb (get_or q a 0) (get_or q c 0) ≡ false
  apart a c h k e = ne_eqb _ _ (λ same. eqb-false a c e (good.one_to_one a c h k same))

  -- a gate at qubits, at their places
  pub fits_at : (W : ℕ) → N ≤ W → (g : Gate) → fits n g ≡ true → fits W (at q g) ≡ true
  fits_at W le (one κ k a) f = grind (arith, nat_tests, good.inside a)
  fits_at W le (two κ k a b) f = grind (arith, nat_tests, good.inside a, good.inside b, apart a b)

  -- gates without a qubit in common have no place in common
  pub shares_at : (g e : Gate) → fits n g ≡ true → fits n e ≡ true → shares g e ≡ false → shares (at q g) (at q e) ≡ false
  shares_at (one κ k a) (one κ' k' c) f f' h = grind (arith, nat_tests, apart a c)
  shares_at (one κ k a) (two κ' k' c d) f f' h = grind (arith, nat_tests, apart a c, apart a d)
  shares_at (two κ k a b) (one κ' k' c) f f' h = grind (arith, nat_tests, apart a c, apart b c)
  shares_at (two κ k a b) (two κ' k' c d) f f' h =
      let (ha, hb) = bounds κ k a b f in
      let (hc, hd) = bounds κ' k' c d f' in
      let (hac, hbc) = or_parts _ _ (or_parts _ _ h).0 in
      let (had, hbd) = or_parts _ _ (or_parts _ _ h).1 in
      or_from _ _ (or_from _ _ (apart a c ha hc hac) (apart b c hb hc hbc)) (or_from _ _ (apart a d ha hd had) (apart b d hb hd hbd))
    where
      bounds : (κ : Kind) (k a b : ℕ) → fits n (two κ k a b) ≡ true → (a < n) × (b < n)
      bounds κ k a b f = (grind (arith, nat_tests), grind (arith, nat_tests))

  -- two wires trade their qubits
  pub good_traded : (a b : ℕ) → pair_below N a b ≡ true → GoodPlaces N n (places_traded a b q)
  good_traded a b h = record {
    long = length-map q (trade a b) ∙ good.long;
    inside = λ c k. let l = good.inside c k in rw (place c k) (grind (arith, nat_tests));
    one_to_one = λ c d k l e. good.one_to_one c d k l
        (sym (trade_trade a b (get_or q c 0)) ∙ ap (trade a b) (sym (place c k) ∙ e ∙ place d l) ∙ trade_trade a b (get_or q d 0));
  }
    where
      place : (c : ℕ) → c < n → get_or (places_traded a b q) c 0 ≡ trade a b (get_or q c 0)
      place c k = get_or-map (trade a b) q c 0 0 (omega (arith, good.long))

-- a gate at traded places
pub at_traded : (a b : ℕ) (q : List ℕ) (g : Gate) → fits (length q) g ≡ true → at (places_traded a b q) g ≡ relabel (trade a b) (at q g)
at_traded a b q (one κ k c) f = ap (one κ k) (get_or-map (trade a b) q c 0 0 (grind (arith, nat_tests)))
at_traded a b q (two κ k c d) f = ap₂ (two κ k) (get_or-map (trade a b) q c 0 0 (grind (arith, nat_tests))) (get_or-map (trade a b) q d 0 0 (grind (arith, nat_tests)))
