-- Steps as gates alone and then exchanges alone.
use Rattle.std.proofs.Common.{◌≡◌, ℕ, true, List, [], ◌∷◌, map, sym, refl, ap, ◌∙◌, ap₂}
use Rattle.std.specs.List.{AllByRecursion}
use Rattle.rows.specs.Steps.{Gate, one, two, Step, gate, swap, pair_below, relabel, trade, GoodStep}
use Rattle.machine.specs.Machines.{Acts, Lawful, run, exchanges}
use Rattle.machine.proofs.Trading.{trade_trade, fits_trade}
use Rattle.theory.proofs.Order.{AllFit}

pub relabel_trade_twice : (a b : ℕ) (g : Gate) → relabel (trade a b) (relabel (trade a b) g) ≡ g
relabel_trade_twice a b (one κ k c) = ap (one κ k) (trade_trade a b c)
relabel_trade_twice a b (two κ k c d) = ap₂ (two κ k) (trade_trade a b c) (trade_trade a b d)

-- the gates of a step list, each at the wires that its qubits had before all exchanges
abbrev pub pulled : List Step → List Gate
pulled [] = []
pulled (gate g ∷ ts) = g ∷ pulled ts
pulled (swap a b ∷ ts) = map (relabel (trade a b)) (pulled ts)

traded_fit : (n a b : ℕ) → pair_below n a b ≡ true → (gs : List Gate) → AllFit n gs → AllFit n (map (relabel (trade a b)) gs)
traded_fit n a b h [] fs = tt
traded_fit n a b h (g ∷ gs) fs = (fits_trade n a b g h fs.0, traded_fit n a b h gs fs.1)

pub pulled_fit : (n : ℕ) (ts : List Step) → AllByRecursion (GoodStep n) ts → AllFit n (pulled ts)
pulled_fit n [] s = tt
pulled_fit n (gate g ∷ ts) s = (s.0.fitting, pulled_fit n ts s.1)
pulled_fit n (swap a b ∷ ts) s = traded_fit n a b s.0 (pulled ts) (pulled_fit n ts s.1)

module _ {State : Type 0} (m : Acts State) (law : Lawful m) where
  before_exchange : (n a b : ℕ) → pair_below n a b ≡ true → (gs : List Gate) → AllFit n gs → (v : State) → m.wide v ≡ n →
      run m (map gate gs) (m.traded a b v) ≡ m.traded a b (run m (map gate (map (relabel (trade a b)) gs)) v)
  before_exchange n a b h [] fs v w = refl
  before_exchange n a b h (g ∷ gs) fs v w =
      ap (run m (map gate gs))
      (sym (law.law_2 (relabel (trade a b) g) a b v (rw w (fits_trade n a b g h fs.0)) (rw w h) ∙ ap (λ e. m.gated e (m.traded a b v)) (relabel_trade_twice a b g))) ∙
      before_exchange n a b h gs fs.1 (m.gated (relabel (trade a b) g) v) (law.wide_gated _ v ∙ w)

  -- the gates, each where its qubits were at first, and then the exchanges
  pub before_exchanges : (n : ℕ) (ts : List Step) → AllByRecursion (GoodStep n) ts → (v : State) → m.wide v ≡ n →
      run m ts v ≡ run m (exchanges ts) (run m (map gate (pulled ts)) v)
  before_exchanges n [] s v w = refl
  before_exchanges n (gate g ∷ ts) s v w = before_exchanges n ts s.1 (m.gated g v) (law.wide_gated g v ∙ w)
  before_exchanges n (swap a b ∷ ts) s v w =
      before_exchanges n ts s.1 (m.traded a b v) (law.wide_traded a b v ∙ w) ∙
      ap (run m (exchanges ts)) (before_exchange n a b s.0 (pulled ts) (pulled_fit n ts s.1) v w)
