-- The rule of Cone: a set of wires a wire, as a number with wire j as 2 ^ j.
use Rattle.std.specs.Prelude.{◌≡◌, ℕ, ◌/◌, ◌%◌, ◌^◌, true, false, cond, bit_or, nat_lt}
use Rattle.machine.specs.Local.{Rule, Cells}

-- wire j is in the set
abbrev pub In : ℕ → ℕ → Type 0
In j set = set / 2 ^ j % 2 ≡ 1

-- Cone knows every kind. A gate on one wire alters nothing; a gate on two gives both wires the union of their sets.
abbrev pub cone_rule : Rule ℕ
cone_rule = record {
  known = λ κ. true;
  single = λ κ k u. record { cell = u; flips = false };
  double = λ κ k u v. record { first = bit_or u v; second = bit_or u v; flips = false };
  shown = λ u. u;
}

-- the set of a number in a machine of n wires: bits of other wires are dropped
abbrev pub set_of : ℕ → ℕ → ℕ
set_of n number = number % 2 ^ n

-- each wire with itself alone
abbrev pub own_wires : ℕ → Cells ℕ
own_wires n = record { width = n; cell = λ w. cond (nat_lt w n) (2 ^ w) 0; minus = false }
