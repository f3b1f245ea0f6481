-- The rule of Depth: a count a wire.
use Rattle.std.specs.Prelude.{ℕ, ◌+◌, ◌%◌, ◌^◌, min, max, true, false}
use Rattle.machine.specs.Local.{Rule, Cells}

-- the largest count
abbrev pub largest : ℕ
largest = 4294967295

-- one more, never above the largest count
abbrev pub one_more : ℕ → ℕ
one_more n = min (n + 1) largest

-- Depth knows every kind. A gate on one wire adds 1; a gate on two sets both counts to one more than the larger.
abbrev pub depth_rule : Rule ℕ
depth_rule = record {
  known = λ κ. true;
  single = λ κ k u. record { cell = one_more u; flips = false };
  double = λ κ k u v. record { first = one_more (max u v); second = one_more (max u v); flips = false };
  shown = λ u. u;
}

-- the count of a number: its low 32 bits
abbrev pub count_of : ℕ → ℕ
count_of number = number % 2 ^ 32

-- 0 everywhere
abbrev pub zeros : ℕ → Cells ℕ
zeros n = record { width = n; cell = λ w. 0; minus = false }
