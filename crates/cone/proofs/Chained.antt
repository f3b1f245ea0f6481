-- Wire j is in the set at wire i exactly when a chain of gates leads from j to i.
use Rattle.std.proofs.Common.{◌≡◌, ℕ, ◌<◌, ◌≤◌, true, false, eqb, ◌⊎◌, List, [], ◌∷◌, map, sym, refl, ap, ◌∙◌, subst, inl, inr, ⊎_elim, arith}
use lib.Bits.{bit_or}
use Rattle.std.proofs.lemmas.Bool.{cases_Bool, cond-true, lt-ltb, eqb-true, or_cases, eq-eqb, or_left, or_right}
use Rattle.rows.specs.declared.kind.Kind.{Kind}
use Rattle.rows.specs.Steps.{Gate, one, two, gate, fits, has}
use Rattle.machine.specs.Machines.{run}
use Rattle.machine.specs.Local.{Cells, wires, local}
use Rattle.machine.specs.Chains.{Within, none, skip, keep, Leads}
use Rattle.machine.proofs.OneGate.{gated_unfit, gated_off, keeps_wires, run_wires, has_below, at_one, at_first, at_second}
use Rattle.cone.specs.Sets.{cone_rule, own_wires, In}
use Rattle.cone.specs.Causal.{Causal}
use Rattle.cone.proofs.Unions.{in_or, or_in, own_in, in_own}

abbrev after : Gate → Cells ℕ → Cells ℕ
after g u = (local cone_rule).gated g u

-- both wires of a gate on two have the union
union : (κ : Kind) (k a b : ℕ) (u : Cells ℕ) → fits (wires u) (two κ k a b) ≡ true → (w : ℕ) → has (two κ k a b) w ≡ true →
    (after (two κ k a b) u).cell w ≡ bit_or (u.cell a) (u.cell b)
union κ k a b u f w h = ⊎_elim
    (λ t. ap (after (two κ k a b) u).cell (sym (eqb-true a w t)) ∙ at_first cone_rule κ k a b u refl f)
    (λ t. ap (after (two κ k a b) u).cell (sym (eqb-true b w t)) ∙ at_second cone_rule κ k a b u refl f)
    (or_cases (eqb a w) (eqb b w) h)

-- a gate on one wire alters nothing
stays : (κ : Kind) (k a : ℕ) (u : Cells ℕ) → fits (wires u) (one κ k a) ≡ true → (w : ℕ) → has (one κ k a) w ≡ true → (after (one κ k a) u).cell w ≡ u.cell w
stays κ k a u f w h = ap (after (one κ k a) u).cell (sym (eqb-true a w h)) ∙ at_one cone_rule κ k a u refl f ∙ ap u.cell (eqb-true a w h)

-- what is in the set at a wire of a gate after it was in the set at a wire of the gate
came_on : (g : Gate) (u : Cells ℕ) → fits (wires u) g ≡ true → (j w : ℕ) → has g w ≡ true → In j ((after g u).cell w) → (v : ℕ) × (has g v ≡ true) × In j (u.cell v)
came_on (one κ k a) u f j w h m = (w, h, subst (In j) (stays κ k a u f w h) m)
came_on (two κ k a b) u f j w h m = ⊎_elim
    (λ p. (a, or_left (eqb a a) (eqb b a) (eq-eqb a a refl), p))
    (λ p. (b, or_right (eqb a b) (eqb b b) (eq-eqb b b refl), p))
    (in_or j (u.cell a) (u.cell b) (subst (In j) (union κ k a b u f w h) m))

-- and the other way round
goes_on : (g : Gate) (u : Cells ℕ) → fits (wires u) g ≡ true → (j v w : ℕ) → has g v ≡ true → has g w ≡ true → In j (u.cell v) → In j ((after g u).cell w)
goes_on (one κ k a) u f j v w p q m = subst (In j) (sym (stays κ k a u f w q)) (subst (λ (i : ℕ). In j (u.cell i)) (sym (eqb-true a v p) ∙ eqb-true a w q) m)
goes_on (two κ k a b) u f j v w p q m = subst (In j) (sym (union κ k a b u f w q)) (or_in j (u.cell a) (u.cell b)
    (⊎_elim
    (λ t. inl (subst (λ (i : ℕ). In j (u.cell i)) (sym (eqb-true a v t)) m))
    (λ t. inr (subst (λ (i : ℕ). In j (u.cell i)) (sym (eqb-true b v t)) m))
    (or_cases (eqb a v) (eqb b v) p)))

-- no wire loses what it has
keeps : (g : Gate) (u : Cells ℕ) (j w : ℕ) → In j (u.cell w) → In j ((after g u).cell w)
keeps g u j w m = by (cases_Bool (fits (wires u) g)) (cases_Bool (has g w))
  where
    by : (fits (wires u) g ≡ true) ⊎ (fits (wires u) g ≡ false) → (has g w ≡ true) ⊎ (has g w ≡ false) → In j ((after g u).cell w)
    by (inl f) (inl h) = goes_on g u f j w w h h m
    by (inr f) x = subst (λ (t : Cells ℕ). In j (t.cell w)) (sym (gated_unfit cone_rule g u f)) m
    by (inl f) (inr h) = subst (In j) (sym (gated_off cone_rule g u w h)) m

abbrev ran : List Gate → Cells ℕ → Cells ℕ
ran gates u = run (local cone_rule) (map gate gates) u

module _ {n : ℕ} where
  -- from any state: what is in the set at a wire was in the set at a wire from which a chain leads to it
  chained : (gates : List Gate) (u : Cells ℕ) → wires u ≡ n → (j i : ℕ) → In j ((ran gates u).cell i) →
      (w : ℕ) × (c : List Gate) × Within n c gates × Leads w c i × In j (u.cell w)
  chained [] u e j i m = (i, [], none, refl, m)
  chained (g ∷ gates) u e j i m =
      more (chained gates (after g u) (keeps_wires cone_rule g u n e) j i m)
    where
      more : (w : ℕ) × (c : List Gate) × Within n c gates × Leads w c i × In j ((after g u).cell w) →
          (w : ℕ) × (c : List Gate) × Within n c (g ∷ gates) × Leads w c i × In j (u.cell w)
      more q = by (cases_Bool (fits n g)) (cases_Bool (has g q.0))
        where
          by : (fits n g ≡ true) ⊎ (fits n g ≡ false) → (has g q.0 ≡ true) ⊎ (has g q.0 ≡ false) →
              (w : ℕ) × (c : List Gate) × Within n c (g ∷ gates) × Leads w c i × In j (u.cell w)
          by (inr f) x = (
            q.0,
            q.1,
            skip g q.2,
            q.3,
            subst (λ (t : Cells ℕ). In j (t.cell q.0)) (gated_unfit cone_rule g u (ap (λ (k : ℕ). fits k g) e ∙ f)) q.4,
          )
          by (inl f) (inr h) = (q.0, q.1, skip g q.2, q.3, subst (In j) (gated_off cone_rule g u q.0 h) q.4)
          by (inl f) (inl h) = let v = came_on g u (ap (λ (k : ℕ). fits k g) e ∙ f) j q.0 h q.4 in
              (v.0, g ∷ q.1, keep g f q.2, (v.1, (q.0, h, q.3)), v.2)

  -- and the other way round
  reaches : (j i : ℕ) {c gates : List Gate} → Within n c gates → (u : Cells ℕ) → wires u ≡ n → (w : ℕ) → Leads w c i → In j (u.cell w) → In j ((ran gates u).cell i)
  reaches j i none u e w l m = subst (λ (k : ℕ). In j (u.cell k)) l m
  reaches j i (skip g k) u e w l m = reaches j i k (after g u) (keeps_wires cone_rule g u n e) w l (keeps g u j w m)
  reaches j i (keep g f k) u e w l m =
      reaches j i k (after g u) (keeps_wires cone_rule g u n e) l.1.0 l.1.2
      (goes_on g u (ap (λ (k : ℕ). fits k g) e ∙ f) j w l.1.0 l.0 l.1.1 m)

  -- a chain that leads to a wire below the width leads from one
  starts_below : (i : ℕ) → i < n → {c gates : List Gate} → Within n c gates → (w : ℕ) → Leads w c i → w < n
  starts_below i h none w l = subst (λ (k : ℕ). k < n) (sym l) h
  starts_below i h (skip g k) w l = starts_below i h k w l
  starts_below i h (keep g f k) w l = has_below n g w f l.0

pub causal : (n : ℕ) → n ≤ 64 → Causal n (own_wires n)
causal n narrow gates j i h =
    let u = ran gates (own_wires n) in
    let e : wires (own_wires n) ≡ n = omega arith in
    let s : wires u ≡ n = run_wires cone_rule n gates (own_wires n) e in
    let r : (local cone_rule).reads u i ≡ u.cell i = cond-true _ (u.cell i) 0 (lt-ltb i (wires u) (omega arith)) in (
      λ m. let q = chained {n = n} gates (own_wires n) e j i (subst (In j) r m) in
          (q.1, record { within = q.2; leads = subst (λ (k : ℕ). Leads k q.1 i) (sym (own_in n j q.0 q.4)) q.3 }),
      λ t. subst (In j) (sym r) (reaches {n = n} j i t.1.within (own_wires n) e j t.1.leads (in_own n j (starts_below i h t.1.within j t.1.leads))),
    )
