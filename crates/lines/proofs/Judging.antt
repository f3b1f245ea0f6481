-- The judgement of a line: the refusals in their order.
use Rattle.std.proofs.Common.{◌≡◌, ℕ, ◌<◌, List, refl, subst, arith}
use Rattle.rows.specs.declared.refusal.Refusal.{Refusal}
use Rattle.rows.specs.Numbers.{rank}
use Rattle.rows.specs.Steps.{Gate}
use Rattle.rows.specs.Refusals.{Accepted, Turned}
use Rattle.lines.specs.Grammar.{Writes, Within, Doubled, LineFits, unreadable, off_circuit, twice, no_row}
use Rattle.lines.proofs.OneGate.{writes_same}

module _ (n left : ℕ) (line : List ℕ) (at : ℕ) where
  abbrev Fits : Refusal → ℕ → Type 0
  Fits = LineFits n left line at

  -- every condition of a line has the line for its place
  place_is : {r : Refusal} {q : ℕ} → Fits r q → q ≡ at
  place_is (unreadable h) = refl
  place_is (off_circuit g w h) = refl
  place_is (twice g w h) = refl
  place_is (no_row h) = refl

  turned : (r : Refusal) → Fits r at → ((m : Refusal) (q : ℕ) → Fits m q → rank m < rank r → ⊥) → Turned Fits (record { refusal = r; place = at })
  turned r holds least = record { holds = holds; first = λ q lt f. omega (arith, place_is f); least = λ m q lt f. least m q f lt }

  pub is_unreadable : ((g : Gate) → ¬ Writes line g) → Turned Fits (record { refusal = Refusal.Unreadable; place = at })
  is_unreadable none = turned Refusal.Unreadable (unreadable none) (λ m q. least)
    where
      least : {m : Refusal} {q : ℕ} → Fits m q → rank m < 2 → ⊥
      least (unreadable h) lt = omega arith
      least (off_circuit g w h) lt = omega arith
      least (twice g w h) lt = omega arith
      least (no_row h) lt = omega arith

  pub is_off : (g : Gate) → Writes line g → ¬ Within n g → Turned Fits (record { refusal = Refusal.OffCircuit; place = at })
  is_off g w off = turned Refusal.OffCircuit (off_circuit g w off) (λ m q. least)
    where
      least : {m : Refusal} {q : ℕ} → Fits m q → rank m < 3 → ⊥
      least (unreadable h) lt = h g w
      least (off_circuit e v h) lt = omega arith
      least (twice e v h) lt = omega arith
      least (no_row h) lt = omega arith

  pub is_twice : (g : Gate) → Writes line g → Within n g → Doubled g → Turned Fits (record { refusal = Refusal.Twice; place = at })
  is_twice g w within doubled = turned Refusal.Twice (twice g w doubled) (λ m q. least)
    where
      least : {m : Refusal} {q : ℕ} → Fits m q → rank m < 4 → ⊥
      least (unreadable h) lt = h g w
      least (off_circuit e v h) lt = h (subst (Within n) (writes_same line g e w v) within)
      least (twice e v h) lt = omega arith
      least (no_row h) lt = omega arith

  pub is_no_row : (g : Gate) → Writes line g → Within n g → ¬ Doubled g → left ≡ 0 → Turned Fits (record { refusal = Refusal.NoRow; place = at })
  is_no_row g w within apart none = turned Refusal.NoRow (no_row none) (λ m q. least)
    where
      least : {m : Refusal} {q : ℕ} → Fits m q → rank m < 5 → ⊥
      least (unreadable h) lt = h g w
      least (off_circuit e v h) lt = h (subst (Within n) (writes_same line g e w v) within)
      least (twice e v h) lt = apart (subst Doubled (writes_same line e g v w) h)
      least (no_row h) lt = omega arith

  pub is_accepted : (g : Gate) → Writes line g → Within n g → ¬ Doubled g → ¬ (left ≡ 0) → Accepted Fits
  is_accepted g w within apart some r q f = none f
    where
      none : {m : Refusal} {q : ℕ} → Fits m q → ⊥
      none (unreadable h) = h g w
      none (off_circuit e v h) = h (subst (Within n) (writes_same line g e w v) within)
      none (twice e v h) = apart (subst Doubled (writes_same line e g v w) h)
      none (no_row h) = some h
