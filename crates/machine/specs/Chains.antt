-- Chains of gates: gates of a list, one after the other, each of which shares a wire with the next.
use Rattle.std.specs.Prelude.{◌≡◌, ℕ, true, List, [], ◌∷◌}
use Rattle.rows.specs.Steps.{Gate, fits, has}

-- some of the gates, in their order; each of them fits n wires
pub data Within (n : ℕ) : List Gate → List Gate → Type 0 where
  none : Within n [] []
  skip : {c gates : List Gate} (g : Gate) → Within n c gates → Within n c (g ∷ gates)
  keep : {c gates : List Gate} (g : Gate) → fits n g ≡ true → Within n c gates → Within n (g ∷ c) (g ∷ gates)

-- the gates lead from wire j to wire i: j is a wire of the first, each shares a wire with the next, and i is a wire of the last.
-- No gates lead from a wire to itself.
abbrev pub Leads : ℕ → List Gate → ℕ → Type 0
Leads j [] i = j ≡ i
Leads j (g ∷ c) i = (has g j ≡ true) × ((w : ℕ) × (has g w ≡ true) × Leads w c i)

-- c is a chain of the gates, on n wires, from wire j to wire i
pub record Chain (n : ℕ) (gates : List Gate) (j i : ℕ) (c : List Gate) : Type 0 where
  pub within : Within n c gates
  pub leads : Leads j c i
