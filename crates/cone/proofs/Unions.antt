-- Sets of wires as numbers, wire j as 2 ^ j.
use Rattle.std.proofs.Common.{◌≡◌, ℕ, ◌+◌, ◌-◌, ◌*◌, ◌/◌, ◌%◌, ◌^◌, ◌<◌, ◌≤◌, max, ltb, ◌⊎◌, sym, ap, ◌∙◌, subst, inl, inr, ⊎_elim, arith, pow-add}
use native.Mathlib.Nat.{zero-div, div-eq_of_lt}
use lib.Bits.{bit_or, or_step}
use lib.Pow.{pow-lt}
use Rattle.std.proofs.lemmas.Nat.{or_shr, shl-shr}
use Rattle.std.proofs.lemmas.Bool.{cases_lt, cases_order, cond-true, cond-false, lt-ltb, le-ltb}
use Rattle.cone.specs.Sets.{In, own_wires}

-- the wires of a union
or_bit : (j a b : ℕ) → bit_or a b / 2 ^ j % 2 ≡ max (a / 2 ^ j % 2) (b / 2 ^ j % 2)
or_bit j a b =
    ap (λ (n : ℕ). n % 2) (or_shr a b j) ∙ last (a / 2 ^ j) (b / 2 ^ j)
  where
    odd_last : (q r n : ℕ) → n ≡ q * 2 + r → r < 2 → n % 2 ≡ r
    odd_last q r n e h = omega arith

    last : (x y : ℕ) → bit_or x y % 2 ≡ max (x % 2) (y % 2)
    last x y = odd_last (bit_or (x / 2) (y / 2)) (max (x % 2) (y % 2)) (bit_or x y) (or_step x y) (omega arith)

pub in_or : (j a b : ℕ) → In j (bit_or a b) → In j a ⊎ In j b
in_or j a b h = ⊎_elim (λ (e : 1 ≤ a / 2 ^ j % 2). inl (omega arith)) (λ (e : 1 ≤ b / 2 ^ j % 2). inr (omega arith)) some_one
  where
    e : max (a / 2 ^ j % 2) (b / 2 ^ j % 2) ≡ 1
    e = sym (or_bit j a b) ∙ h

    some_one : (1 ≤ a / 2 ^ j % 2) ⊎ (1 ≤ b / 2 ^ j % 2)
    some_one = ⊎_elim (λ (q : 0 < a / 2 ^ j % 2). inl q) (λ (q : a / 2 ^ j % 2 ≤ 0). inr (omega (arith, e))) (cases_lt 0 (a / 2 ^ j % 2))

pub or_in : (j a b : ℕ) → In j a ⊎ In j b → In j (bit_or a b)
or_in j a b (inl h) = or_bit j a b ∙ omega arith
or_in j a b (inr h) = or_bit j a b ∙ omega arith

-- the wires of a set of one
in_one : (j : ℕ) → In j (2 ^ j)
in_one j = ap (λ (n : ℕ). n % 2) (ap (λ (n : ℕ). n / 2 ^ j) (omega arith) ∙ shl-shr 1 j)

one_in : (j w : ℕ) → In j (2 ^ w) → j ≡ w
one_in j w h = ⊎_elim (λ (e : j ≡ w). e) (λ o. ⊎_elim low high o) (cases_order j w)
  where
    low : j < w → j ≡ w
    low l =
        let e : 2 ^ w ≡ 2 ^ (w - j) * 2 ^ j = ap (λ (n : ℕ). 2 ^ n) (omega arith) ∙ pow-add 2 (w - j) j in
        let f : 2 ^ (w - j) ≡ 2 ^ (w - j - 1) * 2 ^ 1 = ap (λ (n : ℕ). 2 ^ n) (omega arith) ∙ pow-add 2 (w - j - 1) 1 in
        let q : 2 ^ w / 2 ^ j ≡ 2 ^ (w - j) = ap (λ (n : ℕ). n / 2 ^ j) e ∙ shl-shr (2 ^ (w - j)) j in
        omega arith

    high : w < j → j ≡ w
    high l =
        let q : 2 ^ w / 2 ^ j ≡ 0 = div-eq_of_lt (pow-lt l) in
        omega arith

pub own_in : (n j w : ℕ) → In j ((own_wires n).cell w) → j ≡ w
own_in n j w h = ⊎_elim
    (λ (l : w < n). one_in j w (subst (In j) (cond-true (ltb w n) (2 ^ w) 0 (lt-ltb w n l)) h))
    (λ (l : n ≤ w).
    let z : 0 / 2 ^ j % 2 ≡ 1 = subst (In j) (cond-false (ltb w n) (2 ^ w) 0 (le-ltb w n l)) h in
    let q : 0 / 2 ^ j ≡ 0 = zero-div (2 ^ j) in
    omega arith)
    (cases_lt w n)

pub in_own : (n j : ℕ) → j < n → In j ((own_wires n).cell j)
in_own n j l = subst (In j) (sym (cond-true (ltb j n) (2 ^ j) 0 (lt-ltb j n l))) (in_one j)
