-- Names that are one to one.
use Rattle.std.proofs.Common.{◌≡◌, ℕ, ◌<◌, ◌≤◌, cond, ◌&&◌, ltb, List, length, get_or, take, sym, refl, ap, ◌∙◌, subst, arith}
use Rattle.std.specs.List.{range_with_len, swap}
use Rattle.std.proofs.lemmas.List.FromFn.{length-range_with_len, get_or-range_with_len, take-map-range_with_len}
use Rattle.std.proofs.lemmas.List.Edits.{length-swap}
use Rattle.std.proofs.lemmas.List.{get_or-take, length-take-le, map-id, ext_get_or}
use Rattle.std.proofs.lemmas.Bool.{cond-true}
use Rattle.std.proofs.lemmas.Bool.Decides.{nat_tests}
use Rattle.rows.specs.Steps.{trade}
use Rattle.machine.proofs.Trading.{trade_trade}
use Rattle.cells.proofs.Entries.{traded_at}
use Rattle.layers.specs.Renaming.{Inside, Once}

trade_below : (a b i n : ℕ) → a < n → b < n → i < n → trade a b i < n
trade_below a b i n f g h = grind (arith, nat_tests)

module _ (ns : List ℕ) (a b : ℕ) (f : a < length ns) (g : b < length ns) where
  at : (i : ℕ) → get_or (swap ns a b) i 64 ≡ get_or ns (trade a b i) 64
  at i = traded_at 64 ns (swap ns a b) a b i f g refl

  within : (i : ℕ) → i < length (swap ns a b) → trade a b i < length ns
  within i h = trade_below a b i (length ns) f g (simp length-swap at h)

  -- a trade of two names keeps them one to one
  inside_exchanged : Inside ns → Inside (swap ns a b)
  inside_exchanged p i h = simp (length-swap, at i) (p (trade a b i) (within i h))

  once_exchanged : Once ns → Once (swap ns a b)
  once_exchanged p i j h =
      sym (trade_trade a b i)
      ∙ ap (trade a b) (p (trade a b i) (trade a b j) (within i h.0, within j h.1, sym (at i) ∙ h.2 ∙ at j))
      ∙ trade_trade a b j

-- the front of a table after a trade in it
take_exchanged : (n a b : ℕ) (xs : List ℕ) → n ≤ length xs → a < n → b < n → take n (swap xs a b) ≡ swap (take n xs) a b
take_exchanged n a b xs le f g =
    let l : length (take n xs) ≡ n = length-take-le n xs le in
    let k : length (take n (swap xs a b)) ≡ n = length-take-le n (swap xs a b) (simp length-swap le) in
    let q : length (swap (take n xs) a b) ≡ n = length-swap (take n xs) a b ∙ l in
    ext_get_or 0 (take n (swap xs a b)) (swap (take n xs) a b) (k ∙ sym q)
    (λ i h. let j : i < n = omega arith in
    get_or-take n (swap xs a b) i 0 j
    ∙ traded_at 0 xs (swap xs a b) a b i (omega arith) (omega arith) refl
    ∙ sym (get_or-take n xs (trade a b i) 0 (trade_below a b i n f g j))
    ∙ sym (traded_at 0 (take n xs) (swap (take n xs) a b) a b i (omega arith) (omega arith) refl))

-- names as they start
take_counting : (w n : ℕ) → w ≤ n → take w (range_with_len 0 n) ≡ range_with_len 0 w
take_counting w n h = ap (take w) (sym (map-id (range_with_len 0 n))) ∙ take-map-range_with_len (λ k. k) 0 n w h ∙ map-id (range_with_len 0 w)

at_counting : (n a : ℕ) → a < n → get_or (range_with_len 0 n) a 64 ≡ a
at_counting n a h = omega (arith, get_or-range_with_len 0 n a 64 h)

inside_counting : (n : ℕ) → Inside (range_with_len 0 n)
inside_counting n a h = let l : a < n = (simp length-range_with_len at h) in omega (arith, at_counting n a l, length-range_with_len 0 n)

once_counting : (n : ℕ) → Once (range_with_len 0 n)
once_counting n a b h =
    let l : a < n = (simp length-range_with_len at h.0) in
    let k : b < n = (simp length-range_with_len at h.1) in
    sym (at_counting n a l) ∙ h.2 ∙ at_counting n b k

-- the front of the table that counts up is straight, and one to one
pub straight : (n : ℕ) (xs : List ℕ) → n ≤ 64 → xs ≡ range_with_len 0 64 → Inside (take n xs) × Once (take n xs) × (take n xs ≡ range_with_len 0 n)
straight n xs le q =
    let e : take n xs ≡ range_with_len 0 n = ap (take n) q ∙ take_counting n 64 le in
    (subst Inside (sym e) (inside_counting n), subst Once (sym e) (once_counting n), e)

-- the names in the front of a table after a trade
pub patched : (n : ℕ) (xs ys : List ℕ) (a b : ℕ) → n ≤ length xs → a < n → b < n → ys ≡ swap xs a b → Inside (take n xs) → Once (take n xs) →
    Inside (take n ys) × Once (take n ys) × (take n ys ≡ cond (ltb a (length (take n xs)) && ltb b (length (take n xs))) (swap (take n xs) a b) (take n xs))
patched n xs ys a b le f g q inside once =
    let l : length (take n xs) ≡ n = length-take-le n xs le in
    let f' : a < length (take n xs) = omega arith in
    let g' : b < length (take n xs) = omega arith in
    let e : take n ys ≡ swap (take n xs) a b = ap (take n) q ∙ take_exchanged n a b xs le f g in (
      subst Inside (sym e) (inside_exchanged (take n xs) a b f' g' inside),
      subst Once (sym e) (once_exchanged (take n xs) a b f' g' once),
      e ∙ sym (cond-true (ltb a (length (take n xs)) && ltb b (length (take n xs))) (swap (take n xs) a b) (take n xs) (grind (arith, nat_tests))),
    )
