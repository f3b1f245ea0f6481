use Rattle.std.proofs.Common.{◌≡◌, ℕ, Some, None, Option, sym, ap, ◌∙◌, subst, arith, lit≤}
use Rattle.std.specs.Option.{option_map}
use Rattle.std.proofs.lemmas.Result.{err_from_is_err_and}
use Rattle.rows.specs.declared.row.Step.{Step as StepRow}
use Rattle.rows.specs.declared.refusal.Refusal.{Refusal}
use Rattle.rows.specs.Steps.{Step, step_at, step_of}
use Rattle.chip.specs.declared.chip.Chip.{Chip}
use Rattle.chip.specs.Chips.{chart_of}
use Rattle.sheet.specs.Sheets.{Plan, Log as SheetLog, Ordered}
use Rattle.sheet.specs.Refusals.{uncoupled, busy, late, not_next, full}
use Rattle.theory.proofs.Rows.{step_of_good}
use Rattle.theory.proofs.Sheets.{step_accepted}
use Rattle.plan.specs.Laying.{plan_in}
use Rattle.book.specs.declared.book.Book.{Book}
use Rattle.book.specs.declared.verdict.Turn.{Turn}
use Rattle.book.specs.Books.{Takes}
use Rattle.book.proofs.Verdicts.{turned_shape, turned_step}
use Rattle.book.proofs.Facts.{first_below, second_below, free_larger}
use Rattle.book.proofs.book.Book.judge.Goals as goal

-- the row as it is decoded on the chip's wires
decoded : (b : Book) (x : Chip) (w : ℕ) (r : StepRow) (o : Option Step) → x ≡ b.plan.chip → w ≡ (chart_of x).wires → o ≡ step_of w r → step_of (plan_in b.plan).chart.wires r ≡ o
decoded b x w r o e f d = ap (λ (n : ℕ). step_of n r) (sym (f ∙ ap (λ (y : Chip). (chart_of y).wires) e)) ∙ sym d

pub returns-in_err-action : goal.returns-in_err-action
returns-in_err-action c l h =
    let p = err_from_is_err_and c.from_residual.result c.from_residual.ensures.1 in
    let f : c.in_err-action.field-0.0 ≡ c.refuse.result = grind arith in
    rw (p.1, p.2, f) (turned_shape c.refuse.result _ c.refuse.ensures h.kept (decoded c.args.self.now _ _ c.args.step None c.chip.ensures c.wires.ensures.count
    (sym (ap (option_map step_at) c.in_err-action.ensures.ok_part) ∙ c.decode.ensures)))

pub returns-then-not-is_joined : goal.returns-then-not-is_joined
returns-then-not-is_joined c l h =
    let t = step_at c.in_ok-action.action in
    let d = decoded c.args.self.now _ _ c.args.step (Some t) c.chip.ensures c.wires.ensures.count (sym (ap (option_map step_at) c.in_ok-action.ensures.ok_part) ∙ c.decode.ensures) in
    turned_step t d Refusal.Uncoupled (lit≤ tt) _ _ c.refuse-then-not-is_joined.ensures h.kept (uncoupled t d (sym c.if-not-is_joined.ensures))
    (λ k. absurd (omega arith)) (λ k. absurd (omega arith)) (λ k. absurd (omega arith)) (λ k. absurd (omega arith))

pub free_from-requires : goal.free_from-requires
free_from-requires c =
    let t = step_at c.in_ok-action.action in
    let g = step_of_good c.wires.result c.args.step t (sym (sym (ap (option_map step_at) c.in_ok-action.ensures.ok_part) ∙ c.decode.ensures)) in
    let x = first_below c.wires.result t g in
    let y = second_below c.wires.result t g in
    record { wires = (omega (arith, c.wires.ensures.range.1, c.wires_of.ensures.0), omega (arith, c.wires.ensures.range.1, c.wires_of.ensures.1)) }

pub returns-then-step-free_from : goal.returns-then-step-free_from
returns-then-step-free_from c l h =
    let b = c.args.self.now in
    let t = step_at c.in_ok-action.action in
    let d = decoded b _ _ c.args.step (Some t) c.chip.ensures c.wires.ensures.count (sym (ap (option_map step_at) c.in_ok-action.ensures.ok_part) ∙ c.decode.ensures) in
    let f = free_larger b l h t (step_of_good _ c.args.step t d) _ _ _ c.wires_of.ensures.0 c.wires_of.ensures.1 c.free_from.ensures in
    turned_step t d Refusal.Busy (lit≤ tt) _ _ c.refuse-then-step-free_from.ensures h.kept (busy t d (omega (arith, f, c.if-step-free_from.true)))
    (λ k. sym c.if-not-is_joined.ensures) (λ k. absurd (omega arith)) (λ k. absurd (omega arith)) (λ k. absurd (omega arith))

pub returns-in_err-end : goal.returns-in_err-end
returns-in_err-end c l h =
    let p = err_from_is_err_and c.from_residual-in_err-end.result c.from_residual-in_err-end.ensures.1 in
    let x : c.in_err-end.field-0.0 ≡ c.refuse-2.result = grind arith in
    let past = rw c.in_err-end.ensures.ok_part at c.checked_add.ensures in
    let b = c.args.self.now in
    let t = step_at c.in_ok-action.action in
    let d = decoded b _ _ c.args.step (Some t) c.chip.ensures c.wires.ensures.count (sym (ap (option_map step_at) c.in_ok-action.ensures.ok_part) ∙ c.decode.ensures) in
    let f = free_larger b l h t (step_of_good _ c.args.step t d) _ _ _ c.wires_of.ensures.0 c.wires_of.ensures.1 c.free_from.ensures in
    rw (p.1, p.2, x) (turned_step t d Refusal.Late (lit≤ tt) _ _ c.refuse-2.ensures h.kept (late t d (omega (arith, c.cycles-cycles.ensures, past)))
    (λ k. sym c.if-not-is_joined.ensures) (λ k. omega (arith, f, c.if-step-free_from.false)) (λ k. absurd (omega arith)) (λ k. absurd (omega arith)))

pub returns-in_err-turn : goal.returns-in_err-turn
returns-in_err-turn c l h =
    let p = err_from_is_err_and c.from_residual-in_err-turn.result c.from_residual-in_err-turn.ensures.1 in
    let x : c.in_err-turn.field-0.0 ≡ c.refuse-3.result = grind arith in
    let ends = rw c.in_ok-end.ensures.ok_part at c.checked_add.ensures in
    let other = rw c.in_err-turn.ensures.ok_part at (c.turn.ensures l h) in
    let b = c.args.self.now in
    let t = step_at c.in_ok-action.action in
    let d = decoded b _ _ c.args.step (Some t) c.chip.ensures c.wires.ensures.count (sym (ap (option_map step_at) c.in_ok-action.ensures.ok_part) ∙ c.decode.ensures) in
    let f = free_larger b l h t (step_of_good _ c.args.step t d) _ _ _ c.wires_of.ensures.0 c.wires_of.ensures.1 c.free_from.ensures in
    rw (p.1, p.2, x) (turned_step t d Refusal.NotNext (lit≤ tt) _ _ c.refuse-3.ensures h.kept (not_next t d other)
    (λ k. sym c.if-not-is_joined.ensures) (λ k. omega (arith, f, c.if-step-free_from.false)) (λ k. omega (arith, c.cycles-cycles.ensures, ends)) (λ k. absurd (omega arith)))

-- a step with a turn meets order
ordered : (p : Plan) (l : SheetLog) (t : Step) (u : Turn) → Takes p l t u → Ordered p l t
ordered p l t (Turn.Gate i) (g, e, n) = subst (λ (s : Step). Ordered p l s) (sym e) (i, n)
ordered p l t (Turn.Exchange a b) e = subst (λ (s : Step). Ordered p l s) (sym e) tt

pub returns-then-self-ge262144 : goal.returns-then-self-ge262144
returns-then-self-ge262144 c l h =
    let ends = rw c.in_ok-end.ensures.ok_part at c.checked_add.ensures in
    let takes = rw c.in_ok-turn.ensures.ok_part at (c.turn.ensures l h) in
    let b = c.args.self.now in
    let t = step_at c.in_ok-action.action in
    let d = decoded b _ _ c.args.step (Some t) c.chip.ensures c.wires.ensures.count (sym (ap (option_map step_at) c.in_ok-action.ensures.ok_part) ∙ c.decode.ensures) in
    let f = free_larger b l h t (step_of_good _ c.args.step t d) _ _ _ c.wires_of.ensures.0 c.wires_of.ensures.1 c.free_from.ensures in
    turned_step t d Refusal.Full (lit≤ tt) _ _ c.refuse-then-self-ge262144.ensures h.kept (full (omega (arith, h.kept, c.if-self-ge262144.true)))
    (λ k. sym c.if-not-is_joined.ensures) (λ k. omega (arith, f, c.if-step-free_from.false)) (λ k. omega (arith, c.cycles-cycles.ensures, ends))
    (λ k. ordered _ l t c.in_ok-turn.turn takes)

pub returns : goal.returns
returns c l h =
    let ends = rw c.in_ok-end.ensures.ok_part at c.checked_add.ensures in
    let takes = rw c.in_ok-turn.ensures.ok_part at (c.turn.ensures l h) in
    let b = c.args.self.now in
    let t = step_at c.in_ok-action.action in
    let d = decoded b _ _ c.args.step (Some t) c.chip.ensures c.wires.ensures.count (sym (ap (option_map step_at) c.in_ok-action.ensures.ok_part) ∙ c.decode.ensures) in
    let f = free_larger b l h t (step_of_good _ c.args.step t d) _ _ _ c.wires_of.ensures.0 c.wires_of.ensures.1 c.free_from.ensures in
    record {
      accepted = step_accepted (plan_in b.plan) l c.args.step t d (sym c.if-not-is_joined.ensures) (omega (arith, f, c.if-step-free_from.false))
          (omega (arith, c.cycles-cycles.ensures, ends)) (ordered _ l t c.in_ok-turn.turn takes) (omega (arith, h.kept, c.if-self-ge262144.false));
      decoded = d;
      ends = omega (arith, c.cycles-cycles.ensures, ends);
      takes = takes;
    }
