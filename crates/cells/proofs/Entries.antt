-- The states of tables: filled, after a gate on one wire or on two, and after an exchange.
use Rattle.std.proofs.Common.{◌≡◌, ℕ, ◌<◌, ◌≤◌, min, Bool, true, false, cond, eqb, ◌≢◌, ◌⊎◌, List, length, get_or, take, set, sym, ap, ◌∙◌, inl, inr, ⊎_elim, arith, length-take}
use Rattle.std.specs.List.{swap}
use Rattle.std.proofs.lemmas.List.Edits.{swapped_from_swap, length-swap}
use Rattle.std.proofs.lemmas.List.{get_or_past, get_or-take, length-set, get_or-set_same, get_or-set_other}
use Rattle.std.proofs.lemmas.Bool.{cases_eq, cases_lt, cond-true, cond-false, and_from, eq-eqb, ne_eqb}
use Rattle.std.proofs.lemmas.Bool.Decides.{nat_tests}
use Rattle.rows.specs.declared.kind.Kind.{Kind}
use Rattle.rows.specs.Kinds.{double}
use Rattle.rows.specs.Steps.{one, two, fits, pair_below, trade}
use Rattle.machine.specs.declared.local.Single.{Single}
use Rattle.machine.specs.declared.local.Double.{Double}
use Rattle.machine.specs.Local.{Rule, Cells, differ, put, wires, worked, crossed, local}
use Rattle.cells.specs.Tables.{tabled, made_of}

-- a number below the width, and none
pub number_below : (numbers : List ℕ) (n i : ℕ) → i < n → get_or numbers i 0 ≡ get_or (take n numbers) i 0
number_below numbers n i h = sym (get_or-take n numbers i 0 h)

pub number_past : (numbers : List ℕ) (n i : ℕ) → (i < length numbers → n ≤ i) → 0 ≡ get_or (take n numbers) i 0
number_past numbers n i h = sym (get_or_past (take n numbers) i 0 past)
  where
    past : length (take n numbers) ≤ i
    past = ⊎_elim (λ (l : i < length numbers). let p = h l in simp length-take (omega arith)) (λ (l : length numbers ≤ i). simp length-take (omega arith)) (cases_lt i (length numbers))

module _ {C : Type 0} where
  -- an entry that was written
  written_at : (blank : C) (xs : List C) (a : ℕ) (c : C) (w : ℕ) → a < length xs → get_or (set xs a c) w blank ≡ put a c (λ i. get_or xs i blank) w
  written_at blank xs a c w h = ⊎_elim
      (λ (e : a ≡ w). ap (λ (i : ℕ). get_or (set xs a c) i blank) (sym e) ∙ get_or-set_same xs a c blank h ∙ sym (cond-true (eqb a w) c (get_or xs w blank) (eq-eqb a w e)))
      (λ (n : a ≢ w). get_or-set_other xs a w c blank (λ e. n (sym e)) ∙ sym (cond-false (eqb a w) c (get_or xs w blank) (ne_eqb a w n)))
      (cases_eq a w)

  -- an entry of a table after an exchange
  pub traded_at : (blank : C) (xs ys : List C) (a b w : ℕ) → a < length xs → b < length xs → ys ≡ swap xs a b → get_or ys w blank ≡ get_or xs (trade a b w) blank
  traded_at blank xs ys a b w f g e =
      let s = swapped_from_swap xs ys a b blank f g e in
      ⊎_elim
      (λ (p : w ≡ a). let q : trade a b w ≡ b = grind (arith, nat_tests) in ap (λ (i : ℕ). get_or ys i blank) p ∙ s.0 ∙ sym (ap (λ (i : ℕ). get_or xs i blank) q))
      (λ (n : w ≢ a). ⊎_elim
      (λ (p : w ≡ b). let q : trade a b w ≡ a = grind (arith, nat_tests) in ap (λ (i : ℕ). get_or ys i blank) p ∙ s.1 ∙ sym (ap (λ (i : ℕ). get_or xs i blank) q))
      (λ (m : w ≢ b). let q : trade a b w ≡ w = grind (arith, nat_tests) in s.2 w n m ∙ sym (ap (λ (i : ℕ). get_or xs i blank) q))
      (cases_eq w b))
      (cases_eq w a)

  -- a table whose cells are those of a function, which is blank past the wires
  pub tabled_from : (blank : C) (f : ℕ → C) (n : ℕ) (xs : List C) (m : Bool) → n ≤ 64 → length xs ≡ 64 →
      ((w : ℕ) → w < 64 → get_or xs w blank ≡ f w) → ((w : ℕ) → n ≤ w → f w ≡ blank) → tabled blank n xs m ≡ record { width = n; cell = f; minus = m }
  tabled_from blank f n xs m narrow l e z = λ i. record { width = wide i; cell = λ w. at w i; minus = m }
    where
      wide : min n (length xs) ≡ n
      wide = omega arith

      at : (w : ℕ) → get_or xs w blank ≡ f w
      at w = ⊎_elim (e w) (λ (p : 64 ≤ w). get_or_past xs w blank (omega arith) ∙ sym (z w (omega arith))) (cases_lt w 64)

  -- a table that was filled
  pub tabled_made : (blank : C) (make : ℕ → C) (n : ℕ) (xs : List C) (k : ℕ) (numbers : List ℕ) (m : Bool) → length xs ≡ k → make 0 ≡ blank →
      ((w : ℕ) → w < k → get_or xs w blank ≡ make (get_or (take n numbers) w 0)) → tabled blank n xs m ≡ made_of make (min n k) numbers m
  tabled_made blank make n xs k numbers m l z e = λ i. record { width = min n (l i); cell = λ w. at w i; minus = m }
    where
      narrower : (w : ℕ) → w < k → get_or (take n numbers) w 0 ≡ get_or (take (min n k) numbers) w 0
      narrower w h = ⊎_elim
          (λ (p : w < n). sym (number_below numbers n w p) ∙ number_below numbers (min n k) w (omega arith))
          (λ (p : n ≤ w). sym (number_past numbers n w (λ _. p)) ∙ number_past numbers (min n k) w (λ _. omega arith))
          (cases_lt w n)

      at : (w : ℕ) → get_or xs w blank ≡ make (get_or (take (min n k) numbers) w 0)
      at w = ⊎_elim (λ (p : w < k). e w p ∙ ap make (narrower w p))
          (λ (p : k ≤ w). get_or_past xs w blank (omega arith) ∙ sym z ∙ ap make (number_past numbers (min n k) w (λ _. omega arith)))
          (cases_lt w k)

module _ {C : Type 0} (r : Rule C) (blank : C) (n : ℕ) (xs : List C) (m : Bool) (le : n ≤ 64) where
  abbrev here : Cells C
  here = tabled blank n xs m

  -- a gate on one wire
  pub tabled_one : (κ : Kind) (k a : ℕ) (made : Single C) → r.known κ ≡ true → double κ ≡ false → a < n → a < length xs →
      made ≡ r.single κ k (get_or xs a blank) → tabled blank n (set xs a made.cell) (differ m made.flips) ≡ (local r).gated (one κ k a) here
  tabled_one κ k a made known single f g e =
      (λ i. record { width = min n (length-set xs a made.cell i); cell = λ w. written_at blank xs a made.cell w g i; minus = differ m made.flips })
      ∙ (λ i. record { width = min n (length xs); cell = put a (e i).cell (λ w. get_or xs w blank); minus = differ m (e i).flips })
      ∙ sym (cond-true _ (worked r (one κ k a) here) here (and_from (r.known κ) (fits (wires here) (one κ k a)) known fit))
    where
      fit : fits (wires here) (one κ k a) ≡ true
      fit = grind (arith, nat_tests)

  -- a gate on two wires
  pub tabled_two : (κ : Kind) (k a b : ℕ) (made : Double C) → r.known κ ≡ true → double κ ≡ true → pair_below n a b ≡ true → a < length xs → b < length xs →
      made ≡ r.double κ k (get_or xs a blank) (get_or xs b blank) →
      tabled blank n (set (set xs a made.first) b made.second) (differ m made.flips) ≡ (local r).gated (two κ k a b) here
  tabled_two κ k a b made known twofold h f g e =
      (λ i. record {
        width = min n ((length-set (set xs a made.first) b made.second ∙ length-set xs a made.first) i);
        cell = λ w. (written_at blank (set xs a made.first) b made.second w (simp length-set g)
            ∙ ap (cond (eqb b w) made.second) (written_at blank xs a made.first w f)
            ∙ apart made.first made.second w) i;
        minus = differ m made.flips;
      })
      ∙ (λ i. record { width = min n (length xs); cell = put a (e i).first (put b (e i).second (λ w. get_or xs w blank)); minus = differ m (e i).flips })
      ∙ sym (cond-true _ (worked r (two κ k a b) here) here (and_from (r.known κ) (fits (wires here) (two κ k a b)) known fit))
    where
      fit : fits (wires here) (two κ k a b) ≡ true
      fit = grind (arith, nat_tests)

      apart : (u v : C) (w : ℕ) → put b v (put a u (λ i. get_or xs i blank)) w ≡ put a u (put b v (λ i. get_or xs i blank)) w
      apart u v w = grind (arith, nat_tests)

  -- an exchange
  pub tabled_crossed : (ys : List C) (a b : ℕ) → pair_below n a b ≡ true →
      (a < length xs → b < length xs → ys ≡ swap xs a b) → ((length xs ≤ a) ⊎ (length xs ≤ b) → ys ≡ xs) →
      tabled blank n ys m ≡ (local r).traded a b here
  tabled_crossed ys a b h e z = ⊎_elim
      (λ (f : a < length xs). ⊎_elim
      (λ (g : b < length xs). both f g)
      (λ (g : length xs ≤ b). idle (z (inr g)) (grind (arith, nat_tests)))
      (cases_lt b (length xs)))
      (λ (f : length xs ≤ a). idle (z (inl f)) (grind (arith, nat_tests)))
      (cases_lt a (length xs))
    where
      idle : ys ≡ xs → pair_below (wires here) a b ≡ false → tabled blank n ys m ≡ (local r).traded a b here
      idle q off = ap (λ (l : List C). tabled blank n l m) q ∙ sym (cond-false _ (crossed a b here) here off)

      wide : (f : a < length xs) (g : b < length xs) → length ys ≡ length xs
      wide f g = ap length (e f g) ∙ length-swap xs a b

      both : a < length xs → b < length xs → tabled blank n ys m ≡ (local r).traded a b here
      both f g =
          (λ i. record { width = min n (wide f g i); cell = λ w. traded_at blank xs ys a b w f g (e f g) i; minus = m })
          ∙ sym (cond-true _ (crossed a b here) here (grind (arith, nat_tests)))
