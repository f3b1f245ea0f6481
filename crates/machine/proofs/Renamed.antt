-- Gates under other names of the wires.
use Rattle.std.proofs.Common.{◌≡◌, ℕ, ◌<◌, ◌≤◌, Bool, true, false, cond, ◌||◌, eqb, ltb, ◌≢◌, ◌⊎◌, List, length, get_or, sym, refl, ap, ◌∙◌, inl, inr, ⊎_elim, arith}
use Rattle.std.proofs.lemmas.List.{get_or_past}
use Rattle.std.proofs.lemmas.Bool.{cond-true, cond-false, eqb-true, ne_eqb, eq-eqb, ltb-true, cases_Bool, cases_lt, cases_eq}
use Rattle.std.proofs.lemmas.Bool.Decides.{nat_tests}
use Rattle.rows.specs.Steps.{Gate, one, two, fits, has, shares, pair_below, relabel, trade}

-- names of n wires: below n they are one to one and below n
pub record Good (n : ℕ) (f : ℕ → ℕ) : Type 0 where
  pub below : (a : ℕ) → a < n → f a < n
  pub once : (a b : ℕ) → a < n → b < n → f a ≡ f b → a ≡ b

-- names of n wires keep what is not below n out
pub record Out (n : ℕ) (f : ℕ → ℕ) : Type 0 where
  pub past : (a : ℕ) → n ≤ a → n ≤ f a

module _ (n : ℕ) (f : ℕ → ℕ) (out : Out n f) where
  -- a gate that does not fit does not fit under other names
  back_below : (a : ℕ) → f a < n → a < n
  back_below a h = ⊎_elim (λ (l : a < n). l) (λ (l : n ≤ a). absurd (let q = out.past a l in omega arith)) (cases_lt a n)

  pub pair_unfit : (a b : ℕ) → pair_below n a b ≡ false → pair_below n (f a) (f b) ≡ false
  pair_unfit a b h = by (pair_below n (f a) (f b)) refl
    where
      by : (t : Bool) → pair_below n (f a) (f b) ≡ t → t ≡ false
      by false e = refl
      by true e =
          let p : f a < n = grind (arith, nat_tests) in
          let q : f b < n = grind (arith, nat_tests) in
          let d : f a ≢ f b = λ z. grind (arith, nat_tests) in
          let i : a < n = back_below a p in
          let j : b < n = back_below b q in
          let k : a ≢ b = λ z. d (ap f z) in
          let t : pair_below n a b ≡ true = grind (arith, nat_tests) in
          sym t ∙ h

  pub unfit : (g : Gate) → fits n g ≡ false → fits n (relabel f g) ≡ false
  unfit (one κ k a) h = by (ltb (f a) n) refl
    where
      by : (t : Bool) → ltb (f a) n ≡ t → fits n (one κ k (f a)) ≡ false
      by false e = grind (arith, nat_tests)
      by true e = let i : a < n = back_below a (ltb-true (f a) n e) in grind (arith, nat_tests)
  unfit (two κ k a b) h = let q = pair_unfit a b in grind (arith, nat_tests)

module _ (n : ℕ) (f : ℕ → ℕ) (good : Good n f) where
  pub pair_fits : (a b : ℕ) → pair_below n a b ≡ true → pair_below n (f a) (f b) ≡ true
  pair_fits a b h =
      let i : a < n = grind (arith, nat_tests) in
      let j : b < n = grind (arith, nat_tests) in
      let d : a ≢ b = λ z. grind (arith, nat_tests) in
      let p : f a < n = good.below a i in
      let q : f b < n = good.below b j in
      let e : f a ≢ f b = λ z. d (good.once a b i j z) in
      grind (arith, nat_tests)

  pub fit : (g : Gate) → fits n g ≡ true → fits n (relabel f g) ≡ true
  fit (one κ k a) h = let i : a < n = grind (arith, nat_tests) in let p : f a < n = good.below a i in grind (arith, nat_tests)
  fit (two κ k a b) h = let q = pair_fits a b in grind (arith, nat_tests)

  same : (a b : ℕ) → a < n → b < n → eqb (f a) (f b) ≡ eqb a b
  same a b i j = ⊎_elim
      (λ (e : a ≡ b). eq-eqb (f a) (f b) (ap f e) ∙ sym (eq-eqb a b e))
      (λ (d : a ≢ b). ne_eqb (f a) (f b) (λ e. d (good.once a b i j e)) ∙ sym (ne_eqb a b d))
      (cases_eq a b)

  has_same : (g : Gate) (w : ℕ) → fits n g ≡ true → w < n → has (relabel f g) (f w) ≡ has g w
  has_same (one κ k a) w h l = same a w (grind (arith, nat_tests)) l
  has_same (two κ k a b) w h l = λ i. same a w (grind (arith, nat_tests)) l i || same b w (grind (arith, nat_tests)) l i

  pub shares_same : (g e : Gate) → fits n g ≡ true → fits n e ≡ true → shares (relabel f g) (relabel f e) ≡ shares g e
  shares_same g (one κ k a) h l = has_same g a h (grind (arith, nat_tests))
  shares_same g (two κ k a b) h l = λ i. has_same g a h (grind (arith, nat_tests)) i || has_same g b h (grind (arith, nat_tests)) i

  -- names of traded wires are traded names
  trade_same : (a b w : ℕ) → a < n → b < n → w < n → trade (f a) (f b) (f w) ≡ f (trade a b w)
  trade_same a b w i j l =
      (λ t. cond (same w a l i t) (f b) (cond (same w b l j t) (f a) (f w))) ∙ push (eqb w a) (eqb w b)
    where
      push : (x y : Bool) → cond x (f b) (cond y (f a) (f w)) ≡ f (cond x b (cond y a w))
      push true y = refl
      push false true = refl
      push false false = refl

  pub relabel_same : (a b : ℕ) (g : Gate) → pair_below n a b ≡ true → fits n g ≡ true → relabel (trade (f a) (f b)) (relabel f g) ≡ relabel f (relabel (trade a b) g)
  relabel_same a b (one κ k c) h l = ap (one κ k) (trade_same a b c (grind (arith, nat_tests)) (grind (arith, nat_tests)) (grind (arith, nat_tests)))
  relabel_same a b (two κ k c d) h l = λ i. two κ k
      (trade_same a b c (grind (arith, nat_tests)) (grind (arith, nat_tests)) (grind (arith, nat_tests)) i)
      (trade_same a b d (grind (arith, nat_tests)) (grind (arith, nat_tests)) (grind (arith, nat_tests)) i)

module _ (n : ℕ) (names : List ℕ) where
  -- the name of a wire by a list of names: 64, which is none of n wires, where the list has none or has not n names
  abbrev by_list : ℕ → ℕ
  by_list a = cond (eqb (length names) n) (get_or names a 64) 64

  -- names that are as many as the wires are good, and others name no wire
  pub good_or_none : ((a : ℕ) → a < length names → get_or names a 64 < length names) →
      ((a b : ℕ) → (a < length names) × (b < length names) × (get_or names a 64 ≡ get_or names b 64) → a ≡ b) →
      Good n by_list ⊎ ((a : ℕ) → by_list a ≡ 64)
  good_or_none inside once = ⊎_elim
      (λ (e : eqb (length names) n ≡ true).
      let l : length names ≡ n = eqb-true (length names) n e in
      let at : (a : ℕ) → by_list a ≡ get_or names a 64 = λ a. cond-true (eqb (length names) n) (get_or names a 64) 64 e in
      inl (record {
        below = λ a h. let q = inside a (omega arith) in omega (arith, at a);
        once = λ a b i j z. once a b (omega arith, omega arith, sym (at a) ∙ z ∙ at b);
      }))
      (λ (e : eqb (length names) n ≡ false). inr (λ a. cond-false (eqb (length names) n) (get_or names a 64) 64 e))
      (cases_Bool (eqb (length names) n))

  -- a wire that is not below n has no name
  pub out : n ≤ 64 → Out n by_list
  out narrow = record { past = λ a h. let q = none a h in omega arith }
    where
      none : (a : ℕ) → n ≤ a → by_list a ≡ 64
      none a h = ⊎_elim
          (λ (e : eqb (length names) n ≡ true).
          let l : length names ≡ n = eqb-true (length names) n e in
          cond-true (eqb (length names) n) (get_or names a 64) 64 e ∙ get_or_past names a 64 (omega arith))
          (λ (e : eqb (length names) n ≡ false). cond-false (eqb (length names) n) (get_or names a 64) 64 e)
          (cases_Bool (eqb (length names) n))

module _ (n : ℕ) (f : ℕ → ℕ) (narrow : n ≤ 64) (none : (a : ℕ) → f a ≡ 64) where
  -- where no wire has a name, no gate fits
  pub none_fits : (g : Gate) → fits n (relabel f g) ≡ false
  none_fits (one κ k a) = let e = none a in grind (arith, nat_tests)
  none_fits (two κ k a b) = let e = none a in grind (arith, nat_tests)

  pub none_trades : (a b : ℕ) → pair_below n (f a) (f b) ≡ false
  none_trades a b = let e = none a in grind (arith, nat_tests)
