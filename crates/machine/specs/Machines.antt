-- Machines by what they do to their states, and the laws that a lawful one keeps.
use Rattle.std.specs.Prelude.{◌≡◌, ℕ, ◌≤◌, Bool, true, false, List, [], ◌∷◌, nat_lt}
use Rattle.rows.specs.declared.kind.Kind.{Kind}
use Rattle.rows.specs.Steps.{Gate, two, kind_of, Step, gate, swap, pair_below, fits, shares, relabel, trade}

-- width, known kinds, gate, exchange and reading
pub record Acts (State : Type 0) : Type 0 where
  pub wide : State → ℕ
  pub knows : State → Kind → Bool
  pub gated : Gate → State → State
  pub traded : ℕ → ℕ → State → State
  pub reads : State → ℕ → ℕ

pub record Lawful {State : Type 0} (m : Acts State) : Type 0 where
  -- at most 64 wires; width and known kinds never change
  pub width : (u : State) → m.wide u ≤ 64
  pub wide_gated : (g : Gate) (u : State) → m.wide (m.gated g u) ≡ m.wide u
  pub wide_traded : (a b : ℕ) (u : State) → m.wide (m.traded a b u) ≡ m.wide u
  pub knows_gated : (g : Gate) (u : State) → m.knows (m.gated g u) ≡ m.knows u
  pub knows_traded : (a b : ℕ) (u : State) → m.knows (m.traded a b u) ≡ m.knows u
  -- an unknown kind, a wire not below the width, or one wire twice leave the state as it is
  pub unknown : (g : Gate) (u : State) → m.knows u (kind_of g) ≡ false → m.gated g u ≡ u
  pub unfit : (g : Gate) (u : State) → fits (m.wide u) g ≡ false → m.gated g u ≡ u
  pub untraded : (a b : ℕ) (u : State) → pair_below (m.wide u) a b ≡ false → m.traded a b u ≡ u
  -- a wire not below the width reads 0
  pub unread : (u : State) (w : ℕ) → nat_lt w (m.wide u) ≡ false → m.reads u w ≡ 0
  -- law 1: two gates with no wire in common give the same state in either order
  pub law_1 : (g e : Gate) (u : State) → fits (m.wide u) g ≡ true → fits (m.wide u) e ≡ true → shares g e ≡ false →
      m.gated e (m.gated g u) ≡ m.gated g (m.gated e u)
  -- law 2: a gate and then an exchange of a and b is that exchange and then the gate with a and b traded in its wires
  pub law_2 : (g : Gate) (a b : ℕ) (u : State) → fits (m.wide u) g ≡ true → pair_below (m.wide u) a b ≡ true →
      m.traded a b (m.gated g u) ≡ m.gated (relabel (trade a b) g) (m.traded a b u)

-- cnot a,b, cnot b,a, cnot a,b
abbrev pub three_cnots : {State : Type 0} → Acts State → ℕ → ℕ → State → State
three_cnots m a b u = m.gated (two Kind.Cnot 0 a b) (m.gated (two Kind.Cnot 0 b a) (m.gated (two Kind.Cnot 0 a b) u))

-- in the state u the three cnots of two wires are their exchange
abbrev pub Crosses : {State : Type 0} → Acts State → ℕ → ℕ → State → Type 0
Crosses m a b u = pair_below (m.wide u) a b ≡ true → three_cnots m a b u ≡ m.traded a b u

-- a machine with a true cnot: it is lawful, it knows cnot, and three of them are the exchange
pub record HasTrueCnot {State : Type 0} (m : Acts State) : Type 0 where
  pub lawful : Lawful m
  pub knows_cnot : (u : State) → m.knows u Kind.Cnot ≡ true
  pub exchange : (a b : ℕ) (u : State) → Crosses m a b u

-- one step, and the steps of a list one after the other
abbrev pub act : {State : Type 0} → Acts State → Step → State → State
act m (gate g) u = m.gated g u
act m (swap a b) u = m.traded a b u

abbrev pub run : {State : Type 0} → Acts State → List Step → State → State
run m [] u = u
run m (t ∷ ts) u = run m ts (act m t u)

-- the exchanges among the steps, in their order
abbrev pub exchanges : List Step → List Step
exchanges [] = []
exchanges (gate g ∷ ts) = exchanges ts
exchanges (swap a b ∷ ts) = swap a b ∷ exchanges ts
