-- Actions that mean the same step are the same.
use Rattle.std.proofs.Common.{◌≡◌, ℕ, arith}
use Rattle.rows.specs.declared.place.Wire.{Wire}
use Rattle.rows.specs.declared.placed.Placed.{Placed}
use Rattle.rows.specs.declared.row.Action.{Action}
use Rattle.rows.specs.Steps.{placed, step_at}

pub same_wire : (a b : Wire) → a.0 ≡ b.0 → a ≡ b
same_wire a b e = λ i. record { 0 = e i }

-- gates at places that are told apart by their numbers
pub placed_same : {P : Type 0} (number : P → ℕ) → ((x y : P) → number x ≡ number y → x ≡ y) → (a b : Placed P) → placed number a ≡ placed number b → a ≡ b
placed_same number apart (Placed.One κ k a) (Placed.One λ' j b) e =
    let p : κ ≡ λ' = cc in let q : k ≡ j = cc in let r : number a ≡ number b = cc in λ i. Placed.One (p i) (q i) (apart a b r i)
placed_same number apart (Placed.One κ k a) (Placed.Two λ' j b c) e = let z : ◌≡◌ {A = ℕ} 0 1 = cc in absurd (omega arith)
placed_same number apart (Placed.Two κ k a d) (Placed.One λ' j b) e = let z : ◌≡◌ {A = ℕ} 0 1 = cc in absurd (omega arith)
placed_same number apart (Placed.Two κ k a d) (Placed.Two λ' j b c) e =
    let p : κ ≡ λ' = cc in let q : k ≡ j = cc in let r : number a ≡ number b = cc in let s : number d ≡ number c = cc in
    λ i. Placed.Two (p i) (q i) (apart a b r i) (apart d c s i)

pub step_at_same : (a b : Action) → step_at a ≡ step_at b → a ≡ b
step_at_same (Action.Gate g) (Action.Gate h) e =
    let p : placed (λ (w : Wire). w.0) g ≡ placed (λ (w : Wire). w.0) h = cc in λ i. Action.Gate (placed_same (λ w. w.0) same_wire g h p i)
step_at_same (Action.Gate g) (Action.Exchange b c) e = let z : ◌≡◌ {A = ℕ} 0 1 = cc in absurd (omega arith)
step_at_same (Action.Exchange a d) (Action.Gate g) e = let z : ◌≡◌ {A = ℕ} 0 1 = cc in absurd (omega arith)
step_at_same (Action.Exchange a d) (Action.Exchange b c) e =
    let r : a.0 ≡ b.0 = cc in let s : d.0 ≡ c.0 = cc in λ i. Action.Exchange (same_wire a b r i) (same_wire d c s i)
