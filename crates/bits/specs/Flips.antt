-- The rule of Bits: a bit a wire.
use Rattle.std.specs.Prelude.{Bool, true, false, not, ℕ, ◌%◌, eqb}
use Rattle.rows.specs.declared.kind.Kind.{Kind}
use Rattle.machine.specs.Local.{Rule, Cells, differ}

-- Bits knows x and cnot
abbrev pub bits_known : Kind → Bool
bits_known Kind.X = true
bits_known Kind.Y = false
bits_known Kind.Z = false
bits_known Kind.H = false
bits_known Kind.S = false
bits_known Kind.Sdag = false
bits_known Kind.T = false
bits_known Kind.Tdag = false
bits_known Kind.Cnot = true
bits_known Kind.Cz = false
bits_known Kind.Crk = false

-- a bit as a number
abbrev pub bit : Bool → ℕ
bit false = 0
bit true = 1

-- x flips its bit; cnot flips the second bit if the first is set. No other kind is known
abbrev pub bits_rule : Rule Bool
bits_rule = record {
  known = bits_known;
  single = λ κ k u. record { cell = not u; flips = false };
  double = λ κ k u v. record { first = u; second = differ v u; flips = false };
  shown = bit;
}

-- the bit of a number: its lowest
abbrev pub bit_of : ℕ → Bool
bit_of number = eqb (number % 2) 1

-- 0 everywhere
abbrev pub all_clear : ℕ → Cells Bool
all_clear n = record { width = n; cell = λ w. false; minus = false }
