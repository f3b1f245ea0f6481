-- How many steps more are enough: open gates, cycles, and the arithmetic.
use Rattle.std.proofs.Common.{◌≡◌, ℕ, zero, suc, pred, ◌+◌, ◌-◌, ◌*◌, ◌<◌, ◌≤◌, Bool, true, false, List, [], ◌∷◌, length, get_or, set, refl, ap, le_of_suc-le-suc, not-suc-le-zero, arith}
use Rattle.std.proofs.lemmas.Bool.Decides.{nat_tests}
use Rattle.std.proofs.lemmas.Bool.{true≢false}
use Rattle.rows.specs.declared.kind.Kind.{Kind}
use Rattle.rows.specs.Kinds.{code}
use Rattle.rows.specs.Steps.{Gate, one, two, Step, gate, swap, kind_of, first_of, second_of, fits, first_wire, second_wire}
use Rattle.chip.specs.Charts.{Chart, GoodChart, joined, step_cycles}
use Rattle.sheet.specs.Sheets.{Plan, Log, at, freed, larger_free, end, starting, Keeps}
use Rattle.routing.specs.Routing.{open_of, pairs}

-- 1 for a gate on two qubits, 0 for others
abbrev pub weight : Gate → ℕ
weight (one κ k a) = 0
weight (two κ k a b) = 1

pairs_more : (g : Gate) (gs : List Gate) → pairs (g ∷ gs) ≡ weight g + pairs gs
pairs_more (one κ k a) gs = omega arith
pairs_more (two κ k a b) gs = omega arith

-- a gate done is one open gate less
pub fewer : (ds : List Bool) (gs : List Gate) (i : ℕ) → i < length gs → get_or ds i true ≡ false →
    (length (open_of ds gs) ≡ suc (length (open_of (set ds i true) gs)))
    × (pairs (open_of ds gs) ≡ weight (get_or gs i (one Kind.X 0 0)) + pairs (open_of (set ds i true) gs))
fewer [] gs i h o = absurd (true≢false o)
fewer (d ∷ ds) [] i h o = absurd (not-suc-le-zero h)
fewer (true ∷ ds) (g ∷ gs) zero h o = absurd (true≢false o)
fewer (false ∷ ds) (g ∷ gs) zero h o = (refl, pairs_more g (open_of ds gs))
fewer (true ∷ ds) (g ∷ gs) (suc i) h o = fewer ds gs i (le_of_suc-le-suc h) o
fewer (false ∷ ds) (g ∷ gs) (suc i) h o =
    let (a, b) = fewer ds gs i (le_of_suc-le-suc h) o in
    (ap suc a, (let x = pairs_more g (open_of ds gs) in let y = pairs_more g (open_of (set ds i true) gs) in omega arith))

pub unjoined_weight : (c : Chart) (g : Gate) → ¬ (joined c (gate g) ≡ true) → weight g ≡ 1
unjoined_weight c (one κ k a) n = absurd (n refl)
unjoined_weight c (two κ k a b) n = refl

pub weight_at : (q : List ℕ) (g : Gate) → weight (at q g) ≡ weight g
weight_at q (one κ k a) = refl
weight_at q (two κ k a b) = refl

pub pair_differs : (n : ℕ) (g : Gate) → fits n g ≡ true → weight g ≡ 1 → ¬ (first_of g ≡ second_of g)
pair_differs n (one κ k a) f w e = omega arith
pair_differs n (two κ k a b) f w e = let z : ◌≡◌ {A = ℕ} 0 1 = grind (arith, nat_tests) in omega arith

-- CYCLES

code_some : (κ : Kind) → (1 ≤ code κ) × (code κ ≤ 12)
code_some Kind.X = (omega arith, omega arith)
code_some Kind.Y = (omega arith, omega arith)
code_some Kind.Z = (omega arith, omega arith)
code_some Kind.H = (omega arith, omega arith)
code_some Kind.S = (omega arith, omega arith)
code_some Kind.Sdag = (omega arith, omega arith)
code_some Kind.T = (omega arith, omega arith)
code_some Kind.Tdag = (omega arith, omega arith)
code_some Kind.Cnot = (omega arith, omega arith)
code_some Kind.Cz = (omega arith, omega arith)
code_some Kind.Crk = (omega arith, omega arith)

pub cycles_few : (c : Chart) → GoodChart c → (t : Step) → step_cycles c t ≤ 4095
cycles_few c chip (gate g) = let (a, b) = code_some (kind_of g) in (chip.timed (code (kind_of g)) a b).1
cycles_few c chip (swap a b) = (chip.timed 12 (omega arith) (omega arith)).1

pub larger_below : (free : List ℕ) (t : Step) (f : ℕ) → ((w : ℕ) → get_or free w 0 ≤ f) → larger_free free t ≤ f
larger_below free t f h = let a = h (first_wire t) in let b = h (second_wire t) in omega arith

set_below : (xs : List ℕ) (i v w m : ℕ) → get_or xs w 0 ≤ m → v ≤ m → get_or (set xs i v) w 0 ≤ m
set_below [] i v w m h k = h
set_below (x ∷ xs) zero v zero m h k = k
set_below (x ∷ xs) zero v (suc w) m h k = h
set_below (x ∷ xs) (suc i) v zero m h k = h
set_below (x ∷ xs) (suc i) v (suc w) m h k = set_below xs i v w m h k

freed_below : (free : List ℕ) (t : Step) (e m : ℕ) → ((w : ℕ) → get_or free w 0 ≤ m) → e ≤ m → (w : ℕ) → get_or (freed free t e) w 0 ≤ m
freed_below free t e m h k w = set_below (set free (first_wire t) e) (second_wire t) e w m (set_below free (first_wire t) e w m (h w) k) k

keeps_free : (p : Plan) (l : Log) (t : Step) (s : ℕ) (u : Log) → Keeps p l t s u → u.free ≡ freed l.free t (end p.chart (starting t s))
keeps_free p l (gate g) s u (i, n, e) = ap (λ v. v.free) e
keeps_free p l (swap a b) s u e = ap (λ v. v.free) e

-- after a kept step no wire is free later than it ends, or than before
pub free_below : (p : Plan) (l : Log) (t : Step) (s : ℕ) (u : Log) (m : ℕ) → Keeps p l t s u → ((w : ℕ) → get_or l.free w 0 ≤ m) →
    end p.chart (starting t s) ≤ m → (w : ℕ) → get_or u.free w 0 ≤ m
free_below p l t s u m k h e w = rw (keeps_free p l t s u k) (freed_below l.free t (end p.chart (starting t s)) m h e w)

-- ARITHMETIC: g open gates, p of them on two qubits, on n wires, and room for m steps; in the names of arguments, ₀ is before

-- a gate done, whatever came before
pub one_done : (g₀ p₀ g p w k m : ℕ) → g₀ ≡ suc g → p₀ ≡ w + p → g₀ + p₀ * k ≤ m → (m ≡ suc (pred m)) × (g + p * k ≤ pred m)
one_done g₀ p₀ g p w k m e f h = let l : suc g + (w + p) * k ≤ m = rw (e, f) at h in (omega arith, omega arith)

-- a gate on two qubits done, after some exchanges
pub pair_done : (g₀ p₀ g p w n m swaps : ℕ) → g₀ ≡ suc g → p₀ ≡ w + p → w ≡ 1 → swaps < n → g₀ + p₀ * (2 * n - 2) ≤ m + swaps →
    (m ≡ suc (pred m)) × (g + p * (2 * n - 2) ≤ pred m)
pair_done g₀ p₀ g p w n m swaps e f o l h = go (2 * n - 2) (omega arith) (rw (e, f, o) at h)
  where
    go : (k : ℕ) → swaps ≤ k → suc g + (1 + p) * k ≤ m + swaps → (m ≡ suc (pred m)) × (g + p * k ≤ pred m)
    go k q r = (omega arith, omega arith)

-- a gate on two qubits done, on the way of the moves
pub walk_done : (g₀ p₀ g p w n m far : ℕ) → g₀ ≡ suc g → p₀ ≡ w + p → w ≡ 1 → 1 ≤ n → 1 ≤ far → g₀ + p₀ * (2 * n - 2) + far ≤ m + (2 * n - 1) →
    (m ≡ suc (pred m)) × (g + p * (2 * n - 2) ≤ pred m)
walk_done g₀ p₀ g p w n m far e f o a b h = go (2 * n - 2) (rw (e, f, o) at (let e : 2 * n - 1 ≡ 1 + (2 * n - 2) = omega arith in rw e at h))
  where
    go : (k : ℕ) → suc g + (1 + p) * k + far ≤ m + (1 + k) → (m ≡ suc (pred m)) × (g + p * k ≤ pred m)
    go k r = (omega arith, omega arith)

-- one exchange more
pub swap_made : (g₀ p₀ g p w n m swaps : ℕ) → g₀ ≡ suc g → p₀ ≡ w + p → w ≡ 1 → swaps < n → g₀ + p₀ * (2 * n - 2) ≤ m + swaps →
    (m ≡ suc (pred m)) × (g₀ + p₀ * (2 * n - 2) ≤ pred m + suc swaps)
swap_made g₀ p₀ g p w n m swaps e f o l h = let q = (pair_done g₀ p₀ g p w n m swaps e f o l h).0 in (q, omega arith)

-- the last of n exchanges
pub last_swap : (x n m swaps far : ℕ) → swaps < n → n ≤ suc swaps → far < n → x ≤ m + suc swaps → x + far ≤ m + (2 * n - 1)
last_swap x n m swaps far a b d h = omega arith

-- one move nearer
pub move_made : (g₀ p₀ g p w n m left : ℕ) → g₀ ≡ suc g → p₀ ≡ w + p → w ≡ 1 → 1 ≤ n → 1 ≤ left → g₀ + p₀ * (2 * n - 2) + suc left ≤ m + (2 * n - 1) →
    (m ≡ suc (pred m)) × (g₀ + p₀ * (2 * n - 2) + left ≤ pred m + (2 * n - 1))
move_made g₀ p₀ g p w n m left e f o a b h = let q = (walk_done g₀ p₀ g p w n m (suc left) e f o a (omega arith) h).0 in (q, omega arith)
