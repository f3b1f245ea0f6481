-- What decodes is as it should be.
use Rattle.std.proofs.Common.{◌≡◌, ℕ, zero, suc, ◌<◌, Bool, true, false, cond, ◌&&◌, ◌||◌, eqb, List, [], ◌∷◌, length, get_or, Some, None, Option, sym, refl, ap, ◌∙◌, subst, suc-le-suc, arith}
use Rattle.std.proofs.lemmas.Bool.{and_parts}
use Rattle.rows.specs.declared.kind.Kind.{Kind}
use Rattle.rows.specs.declared.row.Gate.{Gate as GateRow}
use Rattle.rows.specs.declared.row.Step.{Step as StepRow}
use Rattle.rows.specs.Kinds.{coded, double, k_suits}
use Rattle.rows.specs.Steps.{Gate, one, two, Step, swap, kind_of, k_of, pair_below, fits, gate_on, when, well_formed, formed, gate_of, as_step, step_of, gates_of, gate_row, GoodGate, GoodStep}

module _ {A : Type 0} where
  pub none_some : {x : A} → None ≡ Some x → ⊥
  none_some h = let z : ◌≡◌ {A = ℕ} 0 1 = cc in omega arith

  pub some_same : {x y : A} → Some x ≡ Some y → x ≡ y
  some_same h = cc

  when_some : (t : Bool) (x y : A) → when t x ≡ Some y → (t ≡ true) × (x ≡ y)
  when_some true x y h = (refl, some_same h)
  when_some false x y h = absurd (none_some h)

on_kind : (κ : Kind) (k a b : ℕ) (t : Bool) → k_suits κ k ≡ true → k_suits (kind_of (cond t (two κ k a b) (one κ k a))) (k_of (cond t (two κ k a b) (one κ k a))) ≡ true
on_kind κ k a b true h = h
on_kind κ k a b false h = h

formed_good : (n : ℕ) (o : Option Kind) (a b k : ℕ) (g : Gate) → formed n o a b k ≡ Some g → GoodGate n g
formed_good n None a b k g h = absurd (none_some h)
formed_good n (Some κ) a b k g h =
    let (t, e) = when_some (well_formed n κ a b k) (gate_on κ k a b) g h in
    let (s, f) = and_parts (k_suits κ k) (fits n (gate_on κ k a b)) (and_parts (double κ || eqb b 0) _ t).1 in
    subst (GoodGate n) e (record { fitting = f; k = on_kind κ k a b (double κ) s })

pub gate_of_good : (n : ℕ) (r : GateRow) (g : Gate) → gate_of n r ≡ Some g → GoodGate n g
gate_of_good n r g h = formed_good n (coded r.kind) r.first.0 r.second.0 r.k g h

-- the step of a row has the shape of a step
pub step_of_good : (n : ℕ) (r : StepRow) (t : Step) → step_of n r ≡ Some t → GoodStep n t
step_of_good n r t h = go (eqb r.kind 12) h
  where
    plain : (o : Option Gate) → ((g : Gate) → o ≡ Some g → GoodGate n g) → as_step o ≡ Some t → GoodStep n t
    plain None f e = absurd (none_some e)
    plain (Some g) f e = subst (GoodStep n) (some_same e) (f g refl)

    go : (b : Bool) → cond b (when (eqb r.k 0 && pair_below n r.first.0 r.second.0) (swap r.first.0 r.second.0))
        (as_step (formed n (coded r.kind) r.first.0 r.second.0 r.k)) ≡ Some t → GoodStep n t
    go true e =
        let (b, s) = when_some _ (swap r.first.0 r.second.0) t e in
        subst (GoodStep n) s (and_parts (eqb r.k 0) (pair_below n r.first.0 r.second.0) b).1
    go false e = plain (formed n (coded r.kind) r.first.0 r.second.0 r.k) (formed_good n (coded r.kind) r.first.0 r.second.0 r.k) e

-- if every row decodes, there are as many gates, in the same order
pub gates_decoded : (n : ℕ) (rows : List GateRow) → ((i : ℕ) → i < length rows → ¬ (gate_of n (get_or rows i (gate_row 0 0 0 0)) ≡ None)) →
    (length (gates_of n rows) ≡ length rows)
    × ((i : ℕ) → i < length rows → gate_of n (get_or rows i (gate_row 0 0 0 0)) ≡ Some (get_or (gates_of n rows) i (one Kind.X 0 0)))
gates_decoded n [] h = (refl, λ i k. absurd (omega arith))
gates_decoded n (r ∷ rs) h = go (gate_of n r) refl (gates_decoded n rs (λ i k. h (suc i) (suc-le-suc k)))
  where
    go : (o : Option Gate) → gate_of n r ≡ o →
        (length (gates_of n rs) ≡ length rs) × ((i : ℕ) → i < length rs → gate_of n (get_or rs i (gate_row 0 0 0 0)) ≡ Some (get_or (gates_of n rs) i (one Kind.X 0 0))) →
        (length (gates_of n (r ∷ rs)) ≡ length (r ∷ rs))
        × ((i : ℕ) → i < length (r ∷ rs) → gate_of n (get_or (r ∷ rs) i (gate_row 0 0 0 0)) ≡ Some (get_or (gates_of n (r ∷ rs)) i (one Kind.X 0 0)))
    go None e ih = absurd (h 0 (omega arith) e)
    go (Some g) e ih = (ap length more ∙ ap suc ih.0, at)
      where
        more : gates_of n (r ∷ rs) ≡ g ∷ gates_of n rs
        more = ap (λ o. elim o [ None ↦ gates_of n rs | Some g ↦ g ∷ gates_of n rs ]) e

        at : (i : ℕ) → i < length (r ∷ rs) → gate_of n (get_or (r ∷ rs) i (gate_row 0 0 0 0)) ≡ Some (get_or (gates_of n (r ∷ rs)) i (one Kind.X 0 0))
        at zero k = e ∙ ap (λ l. Some (get_or l 0 (one Kind.X 0 0))) (sym more)
        at (suc i) k = ih.1 i (omega arith) ∙ ap (λ l. Some (get_or l (suc i) (one Kind.X 0 0))) (sym more)
