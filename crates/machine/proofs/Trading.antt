-- Wires traded, and gates at the traded wires.
use Rattle.std.proofs.Common.{◌≡◌, ℕ, true, refl, arith}
use Rattle.std.proofs.lemmas.Bool.Decides.{nat_tests}
use Rattle.rows.specs.Steps.{Gate, one, two, kind_of, pair_below, fits, relabel, trade}

pub trade_trade : (a b w : ℕ) → trade a b (trade a b w) ≡ w
trade_trade a b w = grind (arith, nat_tests)

pub fits_trade : (n a b : ℕ) (g : Gate) → pair_below n a b ≡ true → fits n g ≡ true → fits n (relabel (trade a b) g) ≡ true
fits_trade n a b (one κ k c) h f = grind (arith, nat_tests)
fits_trade n a b (two κ k c d) h f = grind (arith, nat_tests)

pub relabel_kind : (f : ℕ → ℕ) (g : Gate) → kind_of (relabel f g) ≡ kind_of g
relabel_kind f (one κ k a) = refl
relabel_kind f (two κ k a b) = refl
