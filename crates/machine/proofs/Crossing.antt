-- In a local machine three cnots are an exchange, if they are one on any two cells.
use Rattle.std.proofs.Common.{◌≡◌, ℕ, Bool, true, false, eqb, ◌≢◌, sym, refl, ap, ◌∙◌, arith}
use Rattle.std.proofs.lemmas.Bool.{cond-true, eq-eqb}
use Rattle.std.proofs.lemmas.Bool.Decides.{nat_tests}
use Rattle.rows.specs.declared.kind.Kind.{Kind}
use Rattle.rows.specs.Steps.{two, pair_below, trade}
use Rattle.machine.specs.Machines.{Crosses, three_cnots}
use Rattle.machine.specs.Local.{Cells, Rule, differ, put, wires, worked, crossed, local}
use Rattle.machine.proofs.LocalLaws.{does}

-- two cells and the sign
pub record Pair (C : Type 0) : Type 0 where
  pub here : C
  pub there : C
  pub minus : Bool

-- the first of two bits, once it has been added to the second, and that to it, is the second
pub first_added : (u v : Bool) → differ u (differ v u) ≡ v
first_added true true = refl
first_added true false = refl
first_added false true = refl
first_added false false = refl

pub second_added : (u v : Bool) → differ (differ v u) (differ u (differ v u)) ≡ u
second_added true true = refl
second_added true false = refl
second_added false true = refl
second_added false false = refl

module _ {C : Type 0} (r : Rule C) where
  -- a cnot from the first to the second, and back
  abbrev pub forth : Pair C → Pair C
  forth t =
      let made = r.double Kind.Cnot 0 t.here t.there in
      record { here = made.first; there = made.second; minus = differ t.minus made.flips }

  abbrev pub back : Pair C → Pair C
  back t =
      let made = r.double Kind.Cnot 0 t.there t.here in
      record { here = made.second; there = made.first; minus = differ t.minus made.flips }

  -- on two cells three cnots are an exchange
  abbrev pub CrossesCells : Type 0
  CrossesCells = (t : Pair C) → forth (back (forth t)) ≡ record { here = t.there; there = t.here; minus = t.minus }

module _ {C : Type 0} where
  -- the cells with two of them, and the sign, replaced
  abbrev on : Cells C → ℕ → ℕ → Pair C → Cells C
  on u a b t = record { width = u.width; cell = put a t.here (put b t.there u.cell); minus = t.minus }

  abbrev turned : Pair C → Pair C
  turned t = record { here = t.there; there = t.here; minus = t.minus }

  on_turned : (u : Cells C) (a b : ℕ) → a ≢ b → (t : Pair C) → on u a b t ≡ on u b a (turned t)
  on_turned u a b ne t = λ i. record { width = u.width; cell = λ w. at w i; minus = t.minus }
    where
      at : (w : ℕ) → put a t.here (put b t.there u.cell) w ≡ put b t.there (put a t.here u.cell) w
      at w = grind (arith, nat_tests)

  on_crossed : (u : Cells C) (a b : ℕ) → a ≢ b → on u a b (record { here = u.cell b; there = u.cell a; minus = u.minus }) ≡ crossed a b u
  on_crossed u a b ne = λ i. record { width = u.width; cell = λ w. at w i; minus = u.minus }
    where
      at : (w : ℕ) → put a (u.cell b) (put b (u.cell a) u.cell) w ≡ u.cell (trade a b w)
      at w = grind (arith, nat_tests)

  on_same : (u : Cells C) (a b : ℕ) → u ≡ on u a b (record { here = u.cell a; there = u.cell b; minus = u.minus })
  on_same u a b = λ i. record { width = u.width; cell = λ w. at w i; minus = u.minus }
    where
      at : (w : ℕ) → u.cell w ≡ put a (u.cell a) (put b (u.cell b) u.cell) w
      at w = grind (arith, nat_tests)

module _ {C : Type 0} (r : Rule C) (u : Cells C) where
  forth_on : (a b : ℕ) → a ≢ b → (t : Pair C) → worked r (two Kind.Cnot 0 a b) (on u a b t) ≡ on u a b (forth r t)
  forth_on a b ne t =
      (λ i. let made = r.double Kind.Cnot 0 (first i) (second i) in
      record { width = u.width; cell = put a made.first (put b made.second (on u a b t).cell); minus = differ t.minus made.flips })
      ∙ (λ i. record { width = u.width; cell = λ w. again (forth r t).here (forth r t).there w i; minus = (forth r t).minus })
    where
      first : (on u a b t).cell a ≡ t.here
      first = cond-true (eqb a a) _ _ (eq-eqb a a refl)

      second : (on u a b t).cell b ≡ t.there
      second = grind (arith, nat_tests)

      again : (x y : C) (w : ℕ) → put a x (put b y (on u a b t).cell) w ≡ put a x (put b y u.cell) w
      again x y w = grind (arith, nat_tests)

  back_on : (a b : ℕ) → a ≢ b → (t : Pair C) → worked r (two Kind.Cnot 0 b a) (on u a b t) ≡ on u a b (back r t)
  back_on a b ne t =
      ap (worked r (two Kind.Cnot 0 b a)) (on_turned u a b ne t)
      ∙ forth_on b a (λ e. ne (sym e)) (turned t)
      ∙ on_turned u b a (λ e. ne (sym e)) (forth r (turned t))

module _ {C : Type 0} (r : Rule C) (known : r.known Kind.Cnot ≡ true) (crosses : CrossesCells r) where
  pub crossing : (a b : ℕ) (u : Cells C) → Crosses (local r) a b u
  crossing a b u h =
      ap (three_cnots (local r) a b) (on_same u a b)
      ∙ ap (λ (v : Cells C). (local r).gated (two Kind.Cnot 0 a b) ((local r).gated (two Kind.Cnot 0 b a) v)) (go start)
      ∙ ap ((local r).gated (two Kind.Cnot 0 a b)) (come (forth r start))
      ∙ go (back r (forth r start))
      ∙ ap (on u a b) (crosses start)
      ∙ on_crossed u a b ne
      ∙ sym (cond-true (pair_below (wires u) a b) (crossed a b u) u h)
    where
      ne : a ≢ b
      ne e = grind (arith, nat_tests)

      start : Pair C
      start = record { here = u.cell a; there = u.cell b; minus = u.minus }

      go : (t : Pair C) → (local r).gated (two Kind.Cnot 0 a b) (on u a b t) ≡ on u a b (forth r t)
      go t = does r (two Kind.Cnot 0 a b) (on u a b t) known h ∙ forth_on r u a b ne t

      come : (t : Pair C) → (local r).gated (two Kind.Cnot 0 b a) (on u a b t) ≡ on u a b (back r t)
      come t = does r (two Kind.Cnot 0 b a) (on u a b t) known (grind (arith, nat_tests)) ∙ back_on r u a b ne t
