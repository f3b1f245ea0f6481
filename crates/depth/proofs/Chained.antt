-- Depth reads the length of the longest chain.
use Rattle.std.proofs.Common.{◌≡◌, ℕ, ◌+◌, ◌<◌, ◌≤◌, min, max, true, false, eqb, ◌⊎◌, List, [], ◌∷◌, map, length, sym, refl, ap, ◌∙◌, subst, inl, inr, ⊎_elim, arith}
use Rattle.std.proofs.lemmas.Bool.{cases_Bool, cases_lt, cond-true, lt-ltb, eqb-true, or_cases, eq-eqb, or_left, or_right}
use Rattle.rows.specs.Steps.{Gate, one, two, gate, fits, has}
use Rattle.machine.specs.Machines.{run}
use Rattle.machine.specs.Local.{Rule, Cells, wires, local}
use Rattle.machine.specs.Chains.{Within, none, skip, keep, Leads, Chain}
use Rattle.machine.proofs.OneGate.{gated_unfit, gated_off, keeps_wires, run_wires, at_one, at_first, at_second}
use Rattle.depth.specs.Counts.{depth_rule, zeros, largest}
use Rattle.depth.specs.Longest.{Longest, CountsChains}

-- the rule of Depth, with any number for the largest count
abbrev counting_to : ℕ → Rule ℕ
counting_to cap = record {
  known = λ κ. true;
  single = λ κ k u. record { cell = min (u + 1) cap; flips = false };
  double = λ κ k u v. record { first = min (max u v + 1) cap; second = min (max u v + 1) cap; flips = false };
  shown = λ u. u;
}

module _ (cap : ℕ) where
  abbrev after : Gate → Cells ℕ → Cells ℕ
  after g u = (local (counting_to cap)).gated g u

  -- a gate takes each of its wires past each of them
  grows : (g : Gate) (u : Cells ℕ) → fits (wires u) g ≡ true → (v w : ℕ) → has g v ≡ true → has g w ≡ true → min (u.cell v + 1) cap ≤ (after g u).cell w
  grows (one κ k a) u f v w p q =
      let e : (after (one κ k a) u).cell w ≡ min (u.cell v + 1) cap =
      ap (after (one κ k a) u).cell (sym (eqb-true a w q)) ∙ at_one (counting_to cap) κ k a u refl f ∙ ap (λ (i : ℕ). min (u.cell i + 1) cap) (eqb-true a v p) in
      omega arith
  grows (two κ k a b) u f v w p q =
      let e : (after (two κ k a b) u).cell w ≡ min (max (u.cell a) (u.cell b) + 1) cap = both w q in
      let l : u.cell v ≤ max (u.cell a) (u.cell b) =
      ⊎_elim (λ t. let z : u.cell a ≡ u.cell v = ap u.cell (eqb-true a v t) in omega arith) (λ t. let z : u.cell b ≡ u.cell v = ap u.cell (eqb-true b v t) in omega arith) (or_cases (eqb a v) (eqb b v) p) in
      omega arith
    where
      both : (w : ℕ) → has (two κ k a b) w ≡ true → (after (two κ k a b) u).cell w ≡ min (max (u.cell a) (u.cell b) + 1) cap
      both w q = ⊎_elim
          (λ t. ap (after (two κ k a b) u).cell (sym (eqb-true a w t)) ∙ at_first (counting_to cap) κ k a b u refl f)
          (λ t. ap (after (two κ k a b) u).cell (sym (eqb-true b w t)) ∙ at_second (counting_to cap) κ k a b u refl f)
          (or_cases (eqb a w) (eqb b w) q)

  -- and to one more than one of them
  comes : (g : Gate) (u : Cells ℕ) → fits (wires u) g ≡ true → (w : ℕ) → has g w ≡ true → (v : ℕ) × (has g v ≡ true) × ((after g u).cell w ≡ min (u.cell v + 1) cap)
  comes (one κ k a) u f w q = (a, eq-eqb a a refl, ap (after (one κ k a) u).cell (sym (eqb-true a w q)) ∙ at_one (counting_to cap) κ k a u refl f)
  comes (two κ k a b) u f w q = ⊎_elim
      (λ (l : u.cell a < u.cell b). (b, or_right (eqb a b) (eqb b b) (eq-eqb b b refl), (let e = both in omega arith)))
      (λ (l : u.cell b ≤ u.cell a). (a, or_left (eqb a a) (eqb b a) (eq-eqb a a refl), (let e = both in omega arith)))
      (cases_lt (u.cell a) (u.cell b))
    where
      both : (after (two κ k a b) u).cell w ≡ min (max (u.cell a) (u.cell b) + 1) cap
      both = ⊎_elim
          (λ t. ap (after (two κ k a b) u).cell (sym (eqb-true a w t)) ∙ at_first (counting_to cap) κ k a b u refl f)
          (λ t. ap (after (two κ k a b) u).cell (sym (eqb-true b w t)) ∙ at_second (counting_to cap) κ k a b u refl f)
          (or_cases (eqb a w) (eqb b w) q)

  -- no wire goes back
  keeps : (g : Gate) (u : Cells ℕ) (w : ℕ) → min (u.cell w) cap ≤ (after g u).cell w
  keeps g u w = by (cases_Bool (fits (wires u) g)) (cases_Bool (has g w))
    where
      by : (fits (wires u) g ≡ true) ⊎ (fits (wires u) g ≡ false) → (has g w ≡ true) ⊎ (has g w ≡ false) → min (u.cell w) cap ≤ (after g u).cell w
      by (inl f) (inl h) = let l = grows g u f w w h h in omega arith
      by (inr f) x = let e : (after g u).cell w ≡ u.cell w = ap (λ (t : Cells ℕ). t.cell w) (gated_unfit (counting_to cap) g u f) in omega arith
      by (inl f) (inr h) = let e = gated_off (counting_to cap) g u w h in omega arith

  capped : (g : Gate) (u : Cells ℕ) → ((w : ℕ) → u.cell w ≤ cap) → (w : ℕ) → (after g u).cell w ≤ cap
  capped g u b w = by (cases_Bool (fits (wires u) g)) (cases_Bool (has g w))
    where
      by : (fits (wires u) g ≡ true) ⊎ (fits (wires u) g ≡ false) → (has g w ≡ true) ⊎ (has g w ≡ false) → (after g u).cell w ≤ cap
      by (inl f) (inl h) = let l = comes g u f w h in omega (arith, l.2)
      by (inr f) x = let e : (after g u).cell w ≡ u.cell w = ap (λ (t : Cells ℕ). t.cell w) (gated_unfit (counting_to cap) g u f) in omega (arith, b w)
      by (inl f) (inr h) = let e = gated_off (counting_to cap) g u w h in omega (arith, b w)

  abbrev ran : List Gate → Cells ℕ → Cells ℕ
  ran gates u = run (local (counting_to cap)) (map gate gates) u

  module _ {n : ℕ} where
    -- from any state: a count is reached along a chain from the count where it starts
    reaches : (gates : List Gate) (u : Cells ℕ) → wires u ≡ n → ((w : ℕ) → u.cell w ≤ cap) → (i : ℕ) →
        (w : ℕ) × (c : List Gate) × Within n c gates × Leads w c i × ((ran gates u).cell i ≡ min (u.cell w + length c) cap)
    reaches [] u e b i = (i, [], none, refl, omega (arith, b i))
    reaches (g ∷ gates) u e b i =
        more (reaches gates (after g u) (keeps_wires (counting_to cap) g u n e) (capped g u b) i) (cases_Bool (fits n g))
      where
        more : (w : ℕ) × (c : List Gate) × Within n c gates × Leads w c i × ((ran gates (after g u)).cell i ≡ min ((after g u).cell w + length c) cap) →
            (fits n g ≡ true) ⊎ (fits n g ≡ false) →
            (w : ℕ) × (c : List Gate) × Within n c (g ∷ gates) × Leads w c i × ((ran gates (after g u)).cell i ≡ min (u.cell w + length c) cap)
        more q (inr f) =
            let s : (after g u).cell q.0 ≡ u.cell q.0 = ap (λ (t : Cells ℕ). t.cell q.0) (gated_unfit (counting_to cap) g u (ap (λ (k : ℕ). fits k g) e ∙ f)) in
            (q.0, q.1, skip g q.2, q.3, omega (arith, q.4))
        more q (inl f) = ⊎_elim
            (λ (h : has g q.0 ≡ true). let v = comes g u (ap (λ (k : ℕ). fits k g) e ∙ f) q.0 h in
            (v.0, g ∷ q.1, keep g f q.2, (v.1, (q.0, h, q.3)), omega (arith, q.4, v.2)))
            (λ (h : has g q.0 ≡ false).
            (q.0, q.1, skip g q.2, q.3, omega (arith, q.4, gated_off (counting_to cap) g u q.0 h)))
            (cases_Bool (has g q.0))

    -- and no chain leads past it
    no_further : (i : ℕ) {c gates : List Gate} → Within n c gates → (u : Cells ℕ) → wires u ≡ n → (w : ℕ) → Leads w c i →
        min (u.cell w + length c) cap ≤ (ran gates u).cell i
    no_further i none u e w l = let q : u.cell w ≡ u.cell i = ap u.cell l in omega arith
    no_further i (skip g k) u e w l =
        let q = no_further i k (after g u) (keeps_wires (counting_to cap) g u n e) w l in
        let r = keeps g u w in omega arith
    no_further i (keep g f k) u e w l =
        let q = no_further i k (after g u) (keeps_wires (counting_to cap) g u n e) l.1.0 l.1.2 in
        let r = grows g u (ap (λ (k : ℕ). fits k g) e ∙ f) w l.1.0 l.0 l.1.1 in omega arith

  module _ (n : ℕ) (narrow : n ≤ 64) (gates : List Gate) (i : ℕ) where
    abbrev end : ℕ
    end = (ran gates (zeros n)).cell i

    wide : wires (zeros n) ≡ n
    wide = omega arith

    some_chain : (j : ℕ) × (c : List Gate) × Chain n gates j i c × (end ≡ min (length c) cap)
    some_chain =
        let q = reaches {n = n} gates (zeros n) wide (λ w. omega arith) i in
        (q.0, q.1, record { within = q.2; leads = q.3 }, omega (arith, q.4))

    every_chain : (j : ℕ) (c : List Gate) → Chain n gates j i c → min (length c) cap ≤ end
    every_chain j c k =
        let q = no_further {n = n} i k.within (zeros n) wide j k.leads in
        omega arith

-- some of the gates are not more than the gates
pub at_most_all : {n : ℕ} {c gates : List Gate} → Within n c gates → length c ≤ length gates
at_most_all none = omega arith
at_most_all (skip g k) = let h = at_most_all k in omega arith
at_most_all (keep g f k) = let h = at_most_all k in omega arith

-- counted up to the number of gates, no chain is cut short, which gives a longest chain
longest : (n : ℕ) → n ≤ 64 → (gates : List Gate) (i : ℕ) → Longest n gates i ((run (local depth_rule) (map gate gates) (zeros n)).cell i)
longest n narrow gates i =
    let q = some_chain (length gates) n narrow gates i in
    let t = some_chain largest n narrow gates i in
    record {
      start = q.0;
      chain = q.1;
      ends = q.2;
      no_longer = λ j c k. omega (arith, q.3, at_most_all k.within, every_chain (length gates) n narrow gates i j c k);
      counted = omega (arith, q.3, t.3, at_most_all q.2.within, at_most_all t.2.within, every_chain (length gates) n narrow gates i t.0 t.1 t.2, every_chain largest n narrow gates i q.0 q.1 q.2);
    }

pub counts_chains : (n : ℕ) → n ≤ 64 → CountsChains n (zeros n)
counts_chains n narrow gates i h =
    let u = run (local depth_rule) (map gate gates) (zeros n) in
    let e : wires u ≡ n = run_wires depth_rule n gates (zeros n) (omega arith) in
    subst (Longest n gates i) (sym (cond-true _ (u.cell i) 0 (lt-ltb i (wires u) (omega arith)))) (longest n narrow gates i)
