-- Properties that are decided, lowest numbers, and different numbers below a bound.
use Rattle.std.proofs.Common.{◌≡◌, ℕ, zero, suc, ◌<◌, ◌≤◌, Bool, true, false, cond, eqb, ◌⊎◌, refl, subst, inl, inr, ⊎_elim, arith}
use Rattle.std.proofs.lemmas.Bool.Decides.{nat_tests}
use Rattle.std.proofs.lemmas.Bool.{true≢false, false≢true, cases_lt, cases_order}
use Rattle.chip.specs.Charts.{Lowest}

abbrev pub Decided : Type 0 → Type 0
Decided A = A ⊎ ¬ A

pub both : {A B : Type 0} → Decided A → Decided B → Decided (A × B)
both (inl a) (inl b) = inl (a, b)
both (inl a) (inr n) = inr (λ p. n p.1)
both (inr n) d = inr (λ p. n p.0)

pub one_of : {A B : Type 0} → Decided A → Decided B → Decided (A ⊎ B)
one_of (inl a) d = inl (inl a)
one_of (inr n) (inl b) = inl (inr b)
one_of (inr n) (inr m) = inr (λ s. ⊎_elim n m s)

pub bool_is : (b v : Bool) → Decided (b ≡ v)
bool_is true true = inl refl
bool_is true false = inr true≢false
bool_is false true = inr false≢true
bool_is false false = inl refl

pub below : (m n : ℕ) → Decided (m < n)
below m n = ⊎_elim (λ h. inl h) (λ h. inr (λ k. omega arith)) (cases_lt m n)

-- the lowest number below n with the property, or none
pub lowest_below : (n : ℕ) (P : ℕ → Type 0) → ((i : ℕ) → Decided (P i)) → ((m : ℕ) × (m < n) × Lowest P m) ⊎ ((i : ℕ) → i < n → ¬ P i)
lowest_below zero P d = inr (λ i h. absurd (omega arith))
lowest_below (suc n) P d = go (lowest_below n P d) (d n)
  where
    go : ((m : ℕ) × (m < n) × Lowest P m) ⊎ ((i : ℕ) → i < n → ¬ P i) → Decided (P n) → ((m : ℕ) × (m < suc n) × Lowest P m) ⊎ ((i : ℕ) → i < suc n → ¬ P i)
    go (inl (m, h, l)) e = inl (m, omega arith, l)
    go (inr f) (inl p) = inl (n, omega arith, record { holds = p; none_lower = f })
    go (inr f) (inr q) = inr (λ i h p. ⊎_elim (λ k. f i k p) (λ k. let e : i ≡ n = omega arith in q (subst P e p)) (cases_lt i n))

pub some_below : (n : ℕ) (P : ℕ → Type 0) → ((i : ℕ) → Decided (P i)) → Decided ((i : ℕ) × (i < n) × P i)
some_below n P d = ⊎_elim (λ (m, h, l). inl (m, h, l.holds)) (λ f. inr (λ (i, h, p). f i h p)) (lowest_below n P d)

pub least : (P : ℕ → Type 0) → ((i : ℕ) → Decided (P i)) → (n : ℕ) → P n → (m : ℕ) × (m ≤ n) × Lowest P m
least P d n p = ⊎_elim (λ (m, h, l). (m, omega arith, l)) (λ f. absurd (f n (omega arith) p)) (lowest_below (suc n) P d)

pub lowest_same : (P : ℕ → Type 0) (i j : ℕ) → Lowest P i → Lowest P j → i ≡ j
lowest_same P i j l k = ⊎_elim (λ e. e)
    (λ o. absurd (⊎_elim (λ h. k.none_lower i h l.holds) (λ h. l.none_lower j h k.holds) o))
    (cases_order i j)

-- d different numbers below n are at most n
pub at_most : (n d : ℕ) (f : ℕ → ℕ) → ((i : ℕ) → i < d → f i < n) → ((i j : ℕ) → i < d → j < d → f i ≡ f j → i ≡ j) → d ≤ n
at_most n zero f low apart = omega arith
at_most zero (suc d) f low apart = let h = low 0 (omega arith) in absurd (omega arith)
at_most (suc n) (suc d) f low apart = let h : d ≤ n = at_most n d g g_low g_apart in omega arith
  where
    last : f d < suc n
    last = low d (omega arith)

    g : ℕ → ℕ
    g i = cond (eqb (f i) n) (f d) (f i)

    g_low : (i : ℕ) → i < d → g i < n
    g_low i h = let l = low i (omega arith) in let a : f i ≡ f d → i ≡ d = apart i d (omega arith) (omega arith) in grind (arith, nat_tests)

    g_apart : (i j : ℕ) → i < d → j < d → g i ≡ g j → i ≡ j
    g_apart i j h k e =
        let a : f i ≡ f d → i ≡ d = apart i d (omega arith) (omega arith) in
        let b : f j ≡ f d → j ≡ d = apart j d (omega arith) (omega arith) in
        let c : f i ≡ f j → i ≡ j = apart i j (omega arith) (omega arith) in grind (arith, nat_tests)
