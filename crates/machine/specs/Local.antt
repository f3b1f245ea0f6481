-- Local machines: a cell a wire and one sign, and gates that see and write the cells of their own wires alone.
use Rattle.std.specs.Prelude.{ℕ, min, Bool, cond, not, ◌&&◌, ◌==◌, nat_lt}
use Rattle.std.specs.Bool.{beq}
use Rattle.rows.specs.declared.kind.Kind.{Kind}
use Rattle.rows.specs.Steps.{Gate, one, two, kind_of, pair_below, fits, trade}
use Rattle.machine.specs.declared.local.Single.{Single}
use Rattle.machine.specs.declared.local.Double.{Double}
use Rattle.machine.specs.Machines.{Acts}

-- whether two bits differ: their sum modulo 2
abbrev pub differ : Bool → Bool → Bool
differ a b = not (beq a b)

-- a number of wires, a cell a wire, and whether the sign is minus
pub record Cells (Cell : Type 0) : Type 0 where
  pub width : ℕ
  pub cell : ℕ → Cell
  pub minus : Bool

-- The kinds that a machine knows, what a gate of a kind and with a k makes of its own cells, and a cell as a number.
pub record Rule (Cell : Type 0) : Type 0 where
  pub known : Kind → Bool
  pub single : Kind → ℕ → Cell → Single Cell
  pub double : Kind → ℕ → Cell → Cell → Double Cell
  pub shown : Cell → ℕ

-- the cells with one of them replaced
abbrev pub put : {Cell : Type 0} → ℕ → Cell → (ℕ → Cell) → ℕ → Cell
put a c f w = cond (a == w) c (f w)

-- the wires that count: more than 64 count as 64
abbrev pub wires : {Cell : Type 0} → Cells Cell → ℕ
wires u = min u.width 64

-- the cells after a gate
abbrev pub worked : {Cell : Type 0} → Rule Cell → Gate → Cells Cell → Cells Cell
worked r (one κ k a) u =
    let made = r.single κ k (u.cell a) in
    record { width = u.width; cell = put a made.cell u.cell; minus = differ u.minus made.flips }
worked r (two κ k a b) u =
    let made = r.double κ k (u.cell a) (u.cell b) in
    record { width = u.width; cell = put a made.first (put b made.second u.cell); minus = differ u.minus made.flips }

-- the cells after an exchange of two wires
abbrev pub crossed : {Cell : Type 0} → ℕ → ℕ → Cells Cell → Cells Cell
crossed a b u = record { width = u.width; cell = λ w. u.cell (trade a b w); minus = u.minus }

-- the machine of a rule
abbrev pub local : {Cell : Type 0} → Rule Cell → Acts (Cells Cell)
local r = record {
  wide = wires;
  knows = λ u. r.known;
  gated = λ g u. cond (r.known (kind_of g) && fits (wires u) g) (worked r g u) u;
  traded = λ a b u. cond (pair_below (wires u) a b) (crossed a b u) u;
  reads = λ u w. cond (nat_lt w (wires u)) (r.shown (u.cell w)) 0;
}
