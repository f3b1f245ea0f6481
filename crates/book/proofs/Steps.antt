-- What a step that the book allows asks of its tables, and what they are after it.
use Rattle.std.proofs.Common.{◌≡◌, ℕ, ◌+◌, ◌<◌, ◌≤◌, max, true, set, Some, ap, ◌∙◌, subst, ⊎_elim, arith}
use mathlib.Core.Logic.{∥∥₁_elim}
use native.Mathlib.Bridge.{le_prop}
use Rattle.std.proofs.lemmas.Bool.{cases_lt}
use Rattle.rows.specs.declared.place.Wire.{Wire}
use Rattle.rows.specs.declared.row.Step.{Step as StepRow}
use Rattle.rows.specs.declared.refusal.Refusal.{Refusal}
use Rattle.rows.specs.Steps.{Step, gate, swap, GoodStep, step_at, step_of, first_wire, second_wire}
use Rattle.places.specs.Placing.{places_of}
use Rattle.sheet.specs.Sheets.{Log as SheetLog, kept, starting, end, places_traded}
use Rattle.sheet.specs.Refusals.{full}
use Rattle.sheet.specs.Runs.{Kept}
use Rattle.theory.proofs.Rows.{step_of_good}
use Rattle.plan.specs.Laying.{plan_in}
use Rattle.book.specs.declared.log.Log.{Log}
use Rattle.book.specs.declared.verdict.Turn.{Turn}
use Rattle.book.specs.declared.verdict.Verdict.{Verdict}
use Rattle.book.specs.declared.book.Book.{Book}
use Rattle.book.specs.Agreeing.{Agrees}
use Rattle.book.specs.Books.{Holds, Takes, Allows}
use Rattle.book.proofs.Facts.{good, first_below, second_below}
use Rattle.book.proofs.Keeping.{gate_log, gate_kept, gate_agrees, swap_log, swap_kept, swap_agrees}

-- every book agrees with some sheet
pub by_sheet : (b : Book) (m n : ℕ) → ((l : SheetLog) → Holds b l → m ≤ n) → m ≤ n
by_sheet b m n f = ∥∥₁_elim b.agrees le_prop (λ x. f x.0 x.1)

module _ (b : Book) (l : SheetLog) (h : Holds b l) (r : StepRow) (v : Verdict) (allows : Allows (plan_in b.plan) l r v) where
  abbrev t : Step
  t = step_at v.action

  shaped : GoodStep (plan_in b.plan).chart.wires t
  shaped = step_of_good (plan_in b.plan).chart.wires r t allows.decoded

  pub first_in : first_wire t < (plan_in b.plan).chart.wires
  first_in = first_below _ t shaped

  pub second_in : second_wire t < (plan_in b.plan).chart.wires
  second_in = second_below _ t shaped

  pub few_wires : (plan_in b.plan).chart.wires ≤ 64
  few_wires = (good b l h).not_many

  pub room_left : b.log.kept < 262144
  room_left = ⊎_elim (λ x. x) (λ x. absurd (allows.accepted Refusal.Full (kept l) (full (omega (arith, h.kept))))) (cases_lt b.log.kept 262144)

  pub gate_in : (i : ℕ) → v.turn ≡ Turn.Gate i → i < 1024
  gate_in i e =
      let x : Takes (plan_in b.plan) l t (Turn.Gate i) = subst (λ (u : Turn). Takes (plan_in b.plan) l t u) e allows.takes in
      omega (arith, x.2.front.listed, (good b l h).few_gates)

  exchanged : (x y : Wire) → v.turn ≡ Turn.Exchange x y → t ≡ swap x.0 y.0
  exchanged x y e = subst (λ (u : Turn). Takes (plan_in b.plan) l t u) e allows.takes

  pub wires_in : (x y : Wire) → v.turn ≡ Turn.Exchange x y → (x.0 < b.log.places.wires) × (y.0 < b.log.places.wires)
  wires_in x y e =
      let same = exchanged x y e in
      let f = first_in in let s = second_in in
      let fx : first_wire t ≡ x.0 = ap first_wire same in
      let sy : second_wire t ≡ y.0 = ap second_wire same in
      let w : b.log.places.wires ≡ (plan_in b.plan).chart.wires = b.wires ∙ b.plan.sized in
      (omega arith, omega arith)

  -- the log after a gate
  module _ (s' : Log) (i : ℕ) (turn : v.turn ≡ Turn.Gate i) (x y : ℕ) (ex : x ≡ first_wire t) (ey : y ≡ second_wire t)
      (free : s'.free ≡ set (set b.log.free x v.end) y v.end) (count : s'.kept ≡ b.log.kept + 1) (last : s'.last ≡ max b.log.last v.end)
      (places : s'.places ≡ b.log.places) (done : s'.done ≡ set b.log.done i true) (trades : s'.exchanges ≡ b.log.exchanges) where
    pub after_gate : (after : SheetLog) × Kept (plan_in b.plan) l r after × Agrees (plan_in b.plan) s' after
    after_gate =
        let p = plan_in b.plan in
        let u : Takes p l t (Turn.Gate i) = subst (λ (u : Turn). Takes p l t u) turn allows.takes in
        let g = u.0 in
        let e = u.1 in
        let d : step_of p.chart.wires r ≡ Some (gate g) = allows.decoded ∙ ap Some e in
        let ends = allows.ends ∙ ap (λ (z : Step). end p.chart (starting z r.start)) e in
        let fr = free ∙ (λ j. set (set b.log.free ((ex ∙ ap first_wire e) j) v.end) ((ey ∙ ap second_wire e) j) v.end) in (
          gate_log p b.log s' l r h allows.accepted g d i u.2 v.end ends fr count last places done trades,
          gate_kept p b.log s' l r h allows.accepted g d i u.2 v.end ends fr count last places done trades,
          gate_agrees p b.log s' l r h allows.accepted g d i u.2 v.end ends fr count last places done trades,
        )

  -- the log after an exchange
  module _ (s' : Log) (c d : Wire) (turn : v.turn ≡ Turn.Exchange c d) (x y : ℕ) (ex : x ≡ first_wire t) (ey : y ≡ second_wire t)
      (free : s'.free ≡ set (set b.log.free x v.end) y v.end) (count : s'.kept ≡ b.log.kept + 1) (last : s'.last ≡ max b.log.last v.end)
      (places : places_of s'.places ≡ places_traded c.0 d.0 (places_of b.log.places)) (done : s'.done ≡ b.log.done) (trades : s'.exchanges ≡ b.log.exchanges + 1) where
    pub after_exchange : (after : SheetLog) × Kept (plan_in b.plan) l r after × Agrees (plan_in b.plan) s' after
    after_exchange =
        let p = plan_in b.plan in
        let e = exchanged c d turn in
        let dec : step_of p.chart.wires r ≡ Some (swap c.0 d.0) = allows.decoded ∙ ap Some e in
        let ends = allows.ends ∙ ap (λ (z : Step). end p.chart (starting z r.start)) e in
        let fr = free ∙ (λ j. set (set b.log.free ((ex ∙ ap first_wire e) j) v.end) ((ey ∙ ap second_wire e) j) v.end) in (
          swap_log p b.log s' l r h allows.accepted c.0 d.0 dec v.end ends fr count last places done trades,
          swap_kept p b.log s' l r h allows.accepted c.0 d.0 dec v.end ends fr count last places done trades,
          swap_agrees p b.log s' l r h allows.accepted c.0 d.0 dec v.end ends fr count last places done trades,
        )
