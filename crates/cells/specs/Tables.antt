-- Tables of cells, one a wire.
use Rattle.std.specs.Prelude.{◌≡◌, ℕ, ◌≤◌, min, Bool, false, List, length, take, slice_index, slice_index_or}
use Rattle.rows.specs.declared.kind.Kind.{Kind}
use Rattle.machine.specs.Local.{Rule, Cells}

-- the state of n wires whose cells stand in a table; a wire past the table's end does not count, and has the blank cell
abbrev pub tabled : {Cell : Type 0} → Cell → ℕ → List Cell → Bool → Cells Cell
tabled blank n table minus = record { width = min n (length table); cell = λ w. slice_index_or table w blank; minus = minus }

-- the state of n wires, each from its number: missing numbers are 0, and numbers past the wires are not looked at
abbrev pub made_of : {Cell : Type 0} → (ℕ → Cell) → ℕ → List ℕ → Bool → Cells Cell
made_of make n numbers minus = record { width = n; cell = λ w. make (slice_index (take n numbers) w); minus = minus }

-- a state of n wires, plus, with the blank cell past the wires
pub record Begun {Cell : Type 0} (blank : Cell) (n : ℕ) (u : Cells Cell) : Type 0 where
  pub wide : u.width ≡ n
  pub plus : u.minus ≡ false
  pub past : (w : ℕ) → n ≤ w → u.cell w ≡ blank

-- a rule of which no gate flips the sign
pub record Plain {Cell : Type 0} (r : Rule Cell) : Type 0 where
  pub single : (κ : Kind) (k : ℕ) (u : Cell) → (r.single κ k u).flips ≡ false
  pub double : (κ : Kind) (k : ℕ) (u v : Cell) → (r.double κ k u v).flips ≡ false
