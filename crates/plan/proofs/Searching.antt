-- The first gate that is not done and shares a place, found among the numbers of the gates.
use Rattle.std.proofs.Common.{◌≡◌, ℕ, ◌<◌, ◌≤◌, true, false, List, Bool, length, get_or, take, Some, None, Option, MatchOption, ap, ◌∙◌, arith}
use lib.ListN.{length-map}
use Rattle.std.proofs.lemmas.List.{length-take-le, get_or-take, get_or-map}
use Rattle.rows.specs.declared.kind.Kind.{Kind}
use Rattle.rows.specs.declared.place.Logical.{Logical}
use Rattle.rows.specs.declared.placed.Placed.{Placed}
use Rattle.rows.specs.Steps.{Gate, one, gate_at, shares}
use Rattle.plan.specs.declared.circuit.Circuit.{Circuit}
use Rattle.plan.specs.Circuits.{gates_in, number, Undone, NoneSharing, FirstSharing}

abbrev pub no_gate : Placed Logical
no_gate = Placed.One Kind.X 0 (record { 0 = 0 })

module _ (c : Circuit) where
  pub gates_length : length (gates_in c) ≡ c.count
  gates_length = length-map (take c.count c.gates) gate_at ∙ length-take-le c.count c.gates (omega (arith, c.few, c.long))

  pub gates_at : (i : ℕ) → i < c.count → number (gates_in c) i ≡ gate_at (get_or c.gates i no_gate)
  gates_at i h =
      get_or-map gate_at (take c.count c.gates) i no_gate (one Kind.X 0 0)
      (omega (arith, length-take-le c.count c.gates (omega (arith, c.few, c.long))))
      ∙ ap gate_at (get_or-take c.count c.gates i no_gate h)

  module _ (done : List Bool) (g : Gate) where
    abbrev pub Shares : ℕ → Type 0
    Shares i = Undone done i × (shares (gate_at (get_or c.gates i no_gate)) g ≡ true)

    abbrev pub Apart : ℕ → Type 0
    Apart i = Undone done i → shares (gate_at (get_or c.gates i no_gate)) g ≡ false

    -- none of the gates before gate n
    none_before : (n : ℕ) → n ≤ c.count → ((k : ℕ) → 0 ≤ k → k < n → Apart k) → NoneSharing (gates_in c) done g n
    none_before n le h j l u = ap (λ x. shares x g) (gates_at j (omega arith)) ∙ h j (omega arith) l u

    pub first_shared : (r : Option ℕ) →
        MatchOption r ((k : ℕ) → 0 ≤ k → k < c.count → Apart k) (λ i. (0 ≤ i) × (i < c.count) × Shares i × ((k : ℕ) → 0 ≤ k → k < i → Apart k)) →
        MatchOption r (NoneSharing (gates_in c) done g c.count) (λ i. FirstSharing (gates_in c) done g i)
    first_shared None h = none_before c.count (omega arith) h
    first_shared (Some i) h = record {
      listed = omega (arith, gates_length, h.1);
      undone = h.2.0;
      common = ap (λ x. shares x g) (gates_at i h.1) ∙ h.2.1;
      before = none_before i (omega (arith, h.1)) h.3;
    }
