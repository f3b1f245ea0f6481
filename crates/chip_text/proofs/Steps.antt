-- One step of the loops.
use Rattle.std.proofs.Common.{◌≡◌, ℕ, zero, suc, ◌+◌, ◌<◌, ◌≤◌, max, Bool, true, false, cond, ◌⊎◌, List, [], ◌∷◌, ◌++◌, length, get_or, drop, sym, ap, ◌∙◌, subst, inl, inr, append_assoc, add-zero, add-one, zero-add, refl, filter, fold, arith}
use Rattle.std.proofs.lemmas.Bool.Decides.{nat_tests}
use Rattle.std.proofs.lemmas.Bool.{cases_lt}
use Rattle.rows.specs.Refusals.{Accepted}
use Rattle.chip.specs.Charts.{Chart, chart, Distance, ChipFits, GoodChart}
use Rattle.std.specs.declared.ops.Range.{Range}
use Rattle.std.specs.List.{range_with_len}
use Rattle.chip_text.specs.Within.{within}
use Rattle.chip_text.specs.Report.{each, largest, count, Far, chip_text, Text, Printed}

-- one part more
pub each_more : (f : ℕ → List ℕ) (n : ℕ) (start before after : List ℕ) → before ≡ start ++ each n f → after ≡ before ++ f n → after ≡ start ++ each (n + 1) f
each_more f n start before after p q =
    q ∙ ap (λ (xs : List ℕ). xs ++ f n) p ∙ append_assoc start (each n f) (f n) ∙ ap (λ (m : ℕ). start ++ each m f) (sym (add-one n))

abbrev pub range : ℕ → Range ℕ
range n = record { start = 0; end = n }

-- how many of a range pass a test
count_from : (p : ℕ → Bool) (n a : ℕ) → length (filter p (range_with_len a n)) + count a p ≡ count (a + n) p
count_from p zero a = zero-add (count a p) ∙ ap (λ (m : ℕ). count m p) (sym (add-zero a))
count_from p (suc n) a =
    let h : length (filter p (range_with_len (a + 1) n)) + count (a + 1) p ≡ count (a + 1 + n) p = count_from p n (a + 1) in
    let e : count (a + 1) p ≡ count a p + cond (p a) 1 0 = ap (λ (m : ℕ). count m p) (add-one a) in
    let f : count (a + 1 + n) p ≡ count (a + suc n) p = ap (λ (m : ℕ). count m p) (omega arith) in
    let g : length (cond (p a) (a ∷ filter p (range_with_len (a + 1) n)) (filter p (range_with_len (a + 1) n))) ≡ cond (p a) 1 0 + length (filter p (range_with_len (a + 1) n)) = one (p a) (filter p (range_with_len (a + 1) n)) in
    omega (arith, g, h, e, f)
  where
    one : (b : Bool) (xs : List ℕ) → length (cond b (a ∷ xs) xs) ≡ cond b 1 0 + length xs
    one true xs = omega arith
    one false xs = omega arith

pub count_range : (p : ℕ → Bool) (n : ℕ) → length (filter p (range_with_len 0 n)) ≡ count n p
count_range p n = let h : length (filter p (range_with_len 0 n)) + 0 ≡ count (0 + n) p = count_from p n 0 in rw (zero-add n) at (sym (add-zero _) ∙ h)

-- the largest over a range
largest_from : (f : ℕ → ℕ) (n a : ℕ) → fold (λ most k. max most (f k)) (largest a f) (range_with_len a n) ≡ largest (a + n) f
largest_from f zero a = ap (λ (m : ℕ). largest m f) (sym (add-zero a))
largest_from f (suc n) a =
    let e : largest (a + 1) f ≡ max (largest a f) (f a) = ap (λ (m : ℕ). largest m f) (add-one a) in
    ap (λ (m : ℕ). fold (λ most k. max most (f k)) m (range_with_len (a + 1) n)) (sym e)
    ∙ largest_from f n (a + 1) ∙ ap (λ (m : ℕ). largest m f) (let g : a + 1 + n ≡ a + suc n = omega arith in g)

pub largest_range : (f : ℕ → ℕ) (n : ℕ) → fold (λ most k. max most (f k)) 0 (range_with_len 0 n) ≡ largest n f
largest_range f n = largest_from f n 0 ∙ ap (λ (m : ℕ). largest m f) (zero-add n)

pub largest_same : (f g : ℕ → ℕ) (n : ℕ) → ((k : ℕ) → k < n → f k ≡ g k) → largest n f ≡ largest n g
largest_same f g zero h = refl
largest_same f g (suc n) h = let p = largest_same f g n (λ k l. h k (omega arith)) in let q = h n (omega arith) in cc

pub within_is : (n : ℕ) (far : ℕ → ℕ → ℕ) (a b : ℕ) → a < n → b < n → within n far a b ≡ far a b
within_is n far a b l m = grind (arith, nat_tests)

-- the parts of a line, one after the other
pub line_of : (o₀ o₁ o₂ o₃ a b c : List ℕ) → o₁ ≡ o₀ ++ a → o₂ ≡ o₁ ++ b → o₃ ≡ o₂ ++ c → o₃ ≡ o₀ ++ (a ++ (b ++ c))
line_of o₀ o₁ o₂ o₃ a b c p q r =
    r ∙ ap (λ (xs : List ℕ). xs ++ c) (q ∙ ap (λ (xs : List ℕ). xs ++ b) p)
    ∙ append_assoc (o₀ ++ a) b c ∙ append_assoc o₀ a (b ++ c)

-- six parts, one after the other
pub text_of : (o₀ o₁ o₂ o₃ o₄ o₅ o₆ a b c d e f : List ℕ) → o₀ ≡ [] → o₁ ≡ o₀ ++ a → o₂ ≡ o₁ ++ b → o₃ ≡ o₂ ++ c → o₄ ≡ o₃ ++ d → o₅ ≡ o₄ ++ e → o₆ ≡ o₅ ++ f
    → o₆ ≡ a ++ (b ++ (c ++ (d ++ (e ++ f))))
text_of o₀ o₁ o₂ o₃ o₄ o₅ o₆ a b c d e f p q r s t u v =
    let front : o₁ ≡ a = q ∙ ap (λ (xs : List ℕ). xs ++ a) p in
    let back : o₆ ≡ o₃ ++ (d ++ (e ++ f)) = line_of o₃ o₄ o₅ o₆ d e f t u v in
    let middle : o₆ ≡ o₁ ++ (b ++ (c ++ (d ++ (e ++ f)))) = line_of o₁ o₂ o₃ o₆ b c (d ++ (e ++ f)) r s back in
    middle ∙ ap (λ (xs : List ℕ). xs ++ (b ++ (c ++ (d ++ (e ++ f))))) front

-- the distances of a chart, as a function
module _ (c : Chart) (g : GoodChart c) where
  abbrev far_at : (a b : ℕ) → (a < c.wires) ⊎ (c.wires ≤ a) → (b < c.wires) ⊎ (c.wires ≤ b) → ℕ
  far_at a b (inl la) (inl lb) = (g.connected a b la lb).0
  far_at a b (inl la) (inr gb) = 0
  far_at a b (inr ga) (inl lb) = 0
  far_at a b (inr ga) (inr gb) = 0

  far_right : (a b : ℕ) → a < c.wires → b < c.wires → (x : (a < c.wires) ⊎ (c.wires ≤ a)) (y : (b < c.wires) ⊎ (c.wires ≤ b)) → Distance c a b (far_at a b x y)
  far_right a b la lb (inl p) (inl q) = (g.connected a b p q).2
  far_right a b la lb (inl p) (inr q) = let f : ⊥ = omega arith in absurd f
  far_right a b la lb (inr p) (inl q) = let f : ⊥ = omega arith in absurd f
  far_right a b la lb (inr p) (inr q) = let f : ⊥ = omega arith in absurd f

  pub far_of : (far : ℕ → ℕ → ℕ) × Far c far
  far_of = (λ a b. far_at a b (cases_lt a c.wires) (cases_lt b c.wires), λ a b la lb. far_right a b la lb (cases_lt a c.wires) (cases_lt b c.wires))

-- the text of a chip is the text for its records
pub text_for : (c : Chart) (n : ℕ) (bs out : List ℕ) → GoodChart c → Accepted (ChipFits n bs) → c ≡ chart n bs
    → ((far : ℕ → ℕ → ℕ) → Far c far → out ≡ chip_text c far) → Text n bs out
text_for c n bs out g a e h =
    let f = far_of c g in
    inl (a, (f.0, subst (λ (x : Chart). Far x f.0) e f.1, h f.0 f.1 ∙ ap (λ (x : Chart). chip_text x f.0) e))

-- an input that is not empty: its first byte, and the others
pub printed_some : (xs out : List ℕ) → 1 ≤ length xs → Text (get_or xs 0 0) (drop 1 xs) out → Printed xs out
printed_some [] out l t = let f : ⊥ = omega arith in absurd f
printed_some (n ∷ bs) out l t = t
