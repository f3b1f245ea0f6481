-- A line writes at most one gate.
use Rattle.std.proofs.Common.{◌≡◌, ℕ, ◌+◌, ◌*◌, ◌<◌, Bool, true, false, cond, eqb, List, [], ◌∷◌, ◌++◌, length, codes, decimal, sym, refl, ap, ◌∙◌, subst, arith}
use Rattle.std.proofs.lemmas.List.{append_cancel_left}
use Rattle.rows.specs.declared.kind.Kind.{Kind}
use Rattle.rows.specs.Kinds.{double, name, turns, k_suits}
use Rattle.rows.specs.Steps.{Gate, one, two, kind_of, first_of}
use Rattle.lines.specs.Number.{Digit, Unlike, Begins}
use Rattle.lines.specs.Grammar.{ending, tail, Writable, Writes}
use Rattle.lines.proofs.Decimal.{begins_same, same_number}
use Rattle.lines.proofs.Suits.{crk_bounds, crk_ending, none_zero, none_ending, single_not}

-- a number that tells the names apart, from the bytes before the first space
abbrev key : ℕ → List ℕ → ℕ
key n [] = n
key n (b ∷ s) = cond (eqb b 32) n (key (n * 3 + b) s)

abbrev kind_by_key : ℕ → Kind
kind_by_key n =
    cond (eqb n 120) Kind.X (cond (eqb n 121) Kind.Y (cond (eqb n 122) Kind.Z (cond (eqb n 104) Kind.H (cond (eqb n 115) Kind.S
    (cond (eqb n 4399) Kind.Sdag (cond (eqb n 116) Kind.T (cond (eqb n 4426) Kind.Tdag (cond (eqb n 4112) Kind.Cnot
    (cond (eqb n 419) Kind.Cz Kind.Crk)))))))))

kind_is : (κ : Kind) (rest : List ℕ) → kind_by_key (key 0 (name κ ++ (codes " q" ++ rest))) ≡ κ
kind_is Kind.X rest = refl
kind_is Kind.Y rest = refl
kind_is Kind.Z rest = refl
kind_is Kind.H rest = refl
kind_is Kind.S rest = refl
kind_is Kind.Sdag rest = refl
kind_is Kind.T rest = refl
kind_is Kind.Tdag rest = refl
kind_is Kind.Cnot rest = refl
kind_is Kind.Cz rest = refl
kind_is Kind.Crk rest = refl

-- a line begins with at most one name
opens_same : (j κ : Kind) (r t : List ℕ) → name j ++ (codes " q" ++ r) ≡ name κ ++ (codes " q" ++ t) → (j ≡ κ) × (r ≡ t)
opens_same j κ r t e =
    let jκ : j ≡ κ = sym (kind_is j r) ∙ ap (λ l. kind_by_key (key 0 l)) e ∙ kind_is κ t in
    let same = append_cancel_left (name j) (codes " q" ++ r) (codes " q" ++ t) (e ∙ ap (λ i. name i ++ (codes " q" ++ t)) (sym jκ)) in
    (jκ, append_cancel_left (codes " q") r t same)

-- no digit follows the number of a qubit
ending_ends : (κ : Kind) (k : ℕ) → Unlike Digit (ending κ k)
ending_ends κ k = by (turns κ) refl
  where
    by : (b : Bool) → turns κ ≡ b → Unlike Digit (ending κ k)
    by true e = subst (Unlike Digit) (sym (crk_ending κ k e)) (λ d. omega (arith, d.0))
    by false e = subst (Unlike Digit) (sym (none_ending κ k e)) tt

tail_ends : (g : Gate) → Unlike Digit (tail g)
tail_ends (one κ k a) = tt
tail_ends (two κ k a b) = λ d. omega (arith, d.0)

-- the number of the second qubit, after the comma and q
pub second_begins : (κ : Kind) (b k : ℕ) → b < 10000 → Begins 9999 (decimal b ++ ending κ k) b (ending κ k)
second_begins κ b k small = record { small = omega arith; ended = ending_ends κ k; split = refl }

pub after_begins : (s after : List ℕ) (κ : Kind) (b k : ℕ) → b < 10000 → s ≡ codes ",q" ++ after → s ≡ codes ",q" ++ (decimal b ++ ending κ k) → Begins 9999 after b (ending κ k)
after_begins s after κ b k small cut is =
    subst (λ t. Begins 9999 t b (ending κ k)) (sym (append_cancel_left (codes ",q") after _ (sym cut ∙ is))) (second_begins κ b k small)

-- the number of the first qubit
first_begins : (g : Gate) → Writable g → Begins 9999 (decimal (first_of g) ++ tail g) (first_of g) (tail g)
first_begins g w = record { small = omega (arith, w.first); ended = tail_ends g; split = refl }

-- a line that writes g, cut after its name and after its first number
pub parts : (line rest after : List ℕ) (κ : Kind) (v : ℕ) (g : Gate) → line ≡ name κ ++ (codes " q" ++ rest) → Begins 9999 rest v after → Writes line g →
    (κ ≡ kind_of g) × (v ≡ first_of g) × (after ≡ tail g)
parts line rest after κ v g cut b w =
    let same = opens_same κ (kind_of g) rest (decimal (first_of g) ++ tail g) (sym cut ∙ w.is) in
    let nums = begins_same 9999 rest v (first_of g) after (tail g) (omega arith) b (subst (λ s. Begins 9999 s (first_of g) (tail g)) (sym same.1) (first_begins g w.writable)) in
    (same.0, nums.0, nums.1)

-- of a kind on one qubit, nothing comes after the first number
pub single_tail : (κ : Kind) (g : Gate) → double κ ≡ false → κ ≡ kind_of g → Writable g → tail g ≡ []
single_tail κ (one j k a) d e w = refl
single_tail κ (two j k a b) d e w = absurd (true_not_false (w.places ∙ ap double (sym e) ∙ d))
  where
    true_not_false : ¬ (true ≡ false)
    true_not_false e = let P : Bool → Type 0 = λ b. cond b (Unit {0}) ⊥ in subst P e tt

-- of a kind on two qubits, the second number and k come after the first number
pub double_tail : (κ : Kind) (g : Gate) → double κ ≡ true → κ ≡ kind_of g → Writable g →
    (b k : ℕ) × (b < 10000) × (k_suits κ k ≡ true) × (tail g ≡ codes ",q" ++ (decimal b ++ ending κ k))
double_tail κ (one j k a) d e w = absurd (false_not_true (w.places ∙ ap double (sym e) ∙ d))
  where
    false_not_true : ¬ (false ≡ true)
    false_not_true e = let P : Bool → Type 0 = λ b. cond b ⊥ (Unit {0}) in subst P e tt
double_tail κ (two j k a b) d e w =
    (b, k, w.second, ap (λ i. k_suits i k) e ∙ w.k, ap (λ i. codes ",q" ++ (decimal b ++ ending i k)) (sym e))

-- what ends a line gives its k
ending_same : (κ : Kind) (k m : ℕ) → k_suits κ k ≡ true → k_suits κ m ≡ true → ending κ k ≡ ending κ m → k ≡ m
ending_same κ k m g h e = by (turns κ) refl
  where
    by : (b : Bool) → turns κ ≡ b → k ≡ m
    by true t =
        let low = crk_bounds κ k t g in
        let high = crk_bounds κ m t h in
        same_number k m (omega (arith, low.1)) (omega (arith, high.1)) (append_cancel_left (codes ",") (decimal k) (decimal m) (sym (crk_ending κ k t) ∙ e ∙ crk_ending κ m t))
    by false t = none_zero κ k t g ∙ sym (none_zero κ m t h)

tail_same : (κ : Kind) (k b m d : ℕ) → k_suits κ k ≡ true → k_suits κ m ≡ true → b < 10000 → d < 10000 →
    codes ",q" ++ (decimal b ++ ending κ k) ≡ codes ",q" ++ (decimal d ++ ending κ m) → (b ≡ d) × (k ≡ m)
tail_same κ k b m d g h sb sd e =
    let cut = append_cancel_left (codes ",q") (decimal b ++ ending κ k) (decimal d ++ ending κ m) e in
    let both = begins_same 9999 _ b d (ending κ k) (ending κ m) (omega arith) (second_begins κ b k sb) (subst (λ s. Begins 9999 s d (ending κ m)) (sym cut) (second_begins κ d m sd)) in
    (both.0, ending_same κ k m g h both.1)

-- a line writes at most one gate
pub writes_same : (line : List ℕ) (g h : Gate) → Writes line g → Writes line h → g ≡ h
writes_same line g h p q =
    let cut = parts line _ _ (kind_of g) (first_of g) h p.is (first_begins g p.writable) q in
    from g h p.writable q.writable cut.0 cut.1 cut.2
  where
    from : (g h : Gate) → Writable g → Writable h → kind_of g ≡ kind_of h → first_of g ≡ first_of h → tail g ≡ tail h → g ≡ h
    from (one κ k a) (one j m c) w v e f t =
        let single : double κ ≡ false = sym w.places in
        let k0 = none_zero κ k (single_not κ single) w.k in
        let m0 = none_zero κ m (single_not κ single) (ap (λ i. k_suits i m) e ∙ v.k) in
        λ i. one (e i) ((k0 ∙ sym m0) i) (f i)
    from (one κ k a) (two j m c d) w v e f t = absurd (omega (arith, ap length t))
    from (two κ k a b) (one j m c) w v e f t = absurd (omega (arith, ap length t))
    from (two κ k a b) (two j m c d) w v e f t =
        let same = tail_same κ k b m d w.k (ap (λ i. k_suits i m) e ∙ v.k) w.second v.second (t ∙ ap (λ i. codes ",q" ++ (decimal d ++ ending i m)) (sym e)) in
        λ i. two (e i) (same.1 i) (f i) (same.0 i)
