-- Gates of rows, one after the other.
use Rattle.std.proofs.Common.{◌≡◌, ℕ, ◌+◌, ◌<◌, ◌≤◌, List, [], ◌∷◌, ◌++◌, map, length, get_or, take, set, Some, None, Option, MatchOption, sym, refl, ap, ◌∙◌, subst, arith}
use lib.ListN.{length-map}
use Rattle.std.specs.List.{AllWithin, HoldsAt}
use Rattle.std.proofs.lemmas.List.{take_more, take_more_set, map-append, take_all, get_or-map}
use Rattle.rows.specs.declared.kind.Kind.{Kind}
use Rattle.rows.specs.declared.row.Gate.{Gate as GateRow}
use Rattle.rows.specs.declared.place.Logical.{Logical}
use Rattle.rows.specs.declared.placed.Placed.{Placed}
use Rattle.rows.specs.declared.refusal.Refusal.{Refusal}
use Rattle.rows.specs.declared.refusal.Fault.{Fault}
use Rattle.rows.specs.Steps.{Gate, one, gate_at, gate_of, gates_of, gate_row}
use Rattle.sheet.specs.Refusals.{BadRows, bad_row, too_many, row_number}
use Rattle.plan.specs.declared.circuit.Circuit.{Circuit}
use Rattle.plan.specs.Circuits.{Reads, Miswritten}

gates_push : (n : ℕ) (rs : List GateRow) (r : GateRow) (g : Gate) → gate_of n r ≡ Some g → gates_of n (rs ++ r ∷ []) ≡ gates_of n rs ++ g ∷ []
gates_push n [] r g e = ap (λ (o : Option Gate). elim o as (λ _. List Gate) [ None ↦ [] | Some h ↦ h ∷ [] ]) e
gates_push n (x ∷ rs) r g e = go (gate_of n x) (gates_push n rs r g e)
  where
    go : (o : Option Gate) → gates_of n (rs ++ r ∷ []) ≡ gates_of n rs ++ g ∷ [] →
        elim o as (λ _. List Gate) [ None ↦ gates_of n (rs ++ r ∷ []) | Some h ↦ h ∷ gates_of n (rs ++ r ∷ []) ]
        ≡ elim o as (λ _. List Gate) [ None ↦ gates_of n rs | Some h ↦ h ∷ gates_of n rs ] ++ g ∷ []
    go None ih = ih
    go (Some h) ih = ap (λ xs. h ∷ xs) ih

-- one row more
pub gates_more : (n : ℕ) (ops : List (Placed Logical)) (rows : List GateRow) (i : ℕ) (op : Placed Logical) → i < length ops → i < length rows →
    map gate_at (take i ops) ≡ gates_of n (take i rows) → Some (gate_at op) ≡ gate_of n (row_number rows i) →
    map gate_at (take (i + 1) (set ops i op)) ≡ gates_of n (take (i + 1) rows)
gates_more n ops rows i op l k e d =
    ap (map gate_at) (take_more_set ops i op l)
    ∙ map-append gate_at (take i ops) (op ∷ [])
    ∙ ap (λ gs. gs ++ gate_at op ∷ []) e
    ∙ sym (gates_push n (take i rows) (row_number rows i) (gate_at op) (sym d))
    ∙ ap (gates_of n) (sym (take_more rows i (gate_row 0 0 0 0) k))

module _ (n : ℕ) (rows : List GateRow) where
  -- the rows below i decode
  abbrev pub DecodedBelow : ℕ → Type 0
  DecodedBelow i = (j : ℕ) → j < i → ¬ (gate_of n (row_number rows j) ≡ None)

  none_before : (i : ℕ) → DecodedBelow i → i ≤ 1024 → {j : ℕ} → BadRows n rows j → j < i → ⊥
  none_before i good le (bad_row {i = j} l e) h = good j h e
  none_before i good le (too_many l) h = omega arith

  pub miswritten_at : (i : ℕ) → i < length rows → i ≤ 1024 → DecodedBelow i → gate_of n (row_number rows i) ≡ None → (f : Fault) → f ≡ record { refusal = Refusal.BadGate; place = i } → Miswritten n rows f
  miswritten_at i l le good bad f e =
      subst (λ (f : Fault). Miswritten n rows f) (sym e) (record { refusal = refl; holds = bad_row l bad; first = λ j h b. none_before i good le b h })

  pub miswritten_past : 1024 < length rows → DecodedBelow 1024 → (f : Fault) → f ≡ record { refusal = Refusal.BadGate; place = 1024 } → Miswritten n rows f
  miswritten_past l good f e =
      subst (λ (f : Fault). Miswritten n rows f) (sym e) (record { refusal = refl; holds = too_many l; first = λ j h b. none_before 1024 good (omega arith) b h })

  pub all_read : (c : Circuit) (i : ℕ) → i ≡ length rows → i ≤ 1024 → c.count ≡ i → map gate_at (take i c.gates) ≡ gates_of n (take i rows) → DecodedBelow i → Reads n rows c
  all_read c i all le count e good = record {
    good = λ j b. none b;
    same = ap (λ (k : ℕ). map gate_at (take k c.gates)) count ∙ e ∙ ap (gates_of n) (take_all i rows (omega arith));
  }
    where
      none : {j : ℕ} → BadRows n rows j → ⊥
      none (bad_row {i = j} l e) = good j (omega arith) e
      none (too_many l) = omega arith

-- the first gate of which a property does not hold, by the list of decoded gates
module _ (P Q : Gate → Type 0) (ops : List (Placed Logical)) where
  abbrev no_op : Placed Logical
  no_op = Placed.One Kind.X 0 (record { 0 = 0 })

  decoded : (R : Gate → Type 0) (i : ℕ) → i < length ops → R (gate_at (get_or ops i no_op)) → R (get_or (map gate_at ops) i (one Kind.X 0 0))
  decoded R i l h = subst R (sym (get_or-map gate_at ops i no_op (one Kind.X 0 0) l)) h

  pub first_gate : (r : Option ℕ) →
      MatchOption r
      (AllWithin (λ o. Q (gate_at o)) ops 0 (length ops))
      (λ i. (i < length ops) × HoldsAt (λ o. P (gate_at o)) ops i × AllWithin (λ o. Q (gate_at o)) ops 0 i) →
      MatchOption r
      ((i : ℕ) → i < length (map gate_at ops) → Q (get_or (map gate_at ops) i (one Kind.X 0 0)))
      (λ i. (i < length (map gate_at ops)) × P (get_or (map gate_at ops) i (one Kind.X 0 0)) × ((j : ℕ) → j < i → Q (get_or (map gate_at ops) j (one Kind.X 0 0))))
  first_gate None h = λ i l. let k : i < length ops = omega (arith, length-map ops gate_at) in decoded Q i k (h i no_op (omega arith) k)
  first_gate (Some i) h = (
    omega (arith, length-map ops gate_at, h.0),
    decoded P i h.0 (h.1 no_op),
    λ j l. let k : j < length ops = omega (arith, h.0) in decoded Q j k (h.2 j no_op (omega arith) l),
  )
