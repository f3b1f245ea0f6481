use Rattle.std.proofs.Common.{◌≡◌, ℕ, Some, None, ◌∙◌, subst, arith, below_more}
use Rattle.std.proofs.lemmas.Result.{err_from_is_err_and}
use Rattle.chip.specs.Chips.{chart_of}
use Rattle.rows.specs.declared.place.Wire.{Wire}
use Rattle.rows.specs.declared.refusal.Refusal.{Refusal}
use Rattle.sheet.specs.Refusals.{BadPlace}
use Rattle.places.specs.Placing.{numbers}
use Rattle.places.proofs.Placing.{bad_here, good_here, next_placed, misplaced_at, all_placed}
use Rattle.places.proofs.places.Places.place_all.Goals as goal

zero_wire : Wire
zero_wire = record { 0 = 0 }

pub returns-in_err-ok_or : goal.returns-in_err-ok_or
unfolding zero_wire
returns-in_err-ok_or c =
    let inv = c.loop-q.invariant in
    let ps = c.args.places.now in
    let q = c.loop-q.q in
    let n = (chart_of c.args.chip.now).wires in
    let p = err_from_is_err_and c.from_residual.result c.from_residual.ensures.1 in
    let none : c.place.result ≡ None = grind arith in
    let f : c.in_err-ok_or.field-0.0 ≡ record { refusal = Refusal.BadPlaces; place = q } = grind arith in
    let taken = rw none at c.place.ensures.placed in
    let bad : BadPlace n (numbers ps) q = subst (λ (m : ℕ). BadPlace m (numbers ps) q) inv.0
    (bad_here c.loop-q.table ps q inv.1 inv.2 c.loop-q-test.true zero_wire taken) in
    rw (p.1, p.2, f) (misplaced_at n ps (record { some_qubit = c.requires.counted.0; not_many = c.requires.counted.1 }) q c.loop-q-test.true bad inv.3)

pub loop-q-preserved : goal.loop-q-preserved
unfolding zero_wire
loop-q-preserved c =
    let inv = c.loop-q.invariant in
    let ps = c.args.places.now in
    let q = c.loop-q.q in
    let some : c.place.result ≡ Some c.in_ok-ok_or.field-0 = grind arith in
    let placed = rw some at c.place.ensures.placed in
    let free = rw some at c.place.ensures.free in (
      c.place.ensures.wires ∙ inv.0,
      placed.0 ∙ omega (arith, inv.1),
      next_placed c.loop-q.table ps q inv.1 inv.2 c.loop-q-test.true zero_wire c.place.new.self placed.1,
      below_more _ _ inv.3
          (subst (λ (m : ℕ). ¬ BadPlace m (numbers ps) q) inv.0 (good_here c.loop-q.table ps q inv.1 inv.2 c.loop-q-test.true zero_wire free)),
    )

pub returns : goal.returns
returns c =
    let inv = c.loop-q.invariant in
    all_placed (chart_of c.args.chip.now).wires c.args.places.now (record { some_qubit = c.requires.counted.0; not_many = c.requires.counted.1 }) c.loop-q.table
    c.loop-q.q (omega (arith, c.loop-q.auto.q-end)) inv.0 inv.1 inv.2 inv.3
