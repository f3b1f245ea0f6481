-- Exactly one answer fits a sheet and a step.
use Rattle.std.proofs.Common.{◌≡◌, ℕ, Ok, Err, Result, sym, ap, ◌∙◌, subst, arith}
use Rattle.rows.specs.declared.row.Step.{Step as StepRow}
use Rattle.rows.specs.declared.refusal.Fault.{Fault}
use Rattle.rows.specs.Steps.{Gate, Step, gate, swap, step_at}
use Rattle.rows.proofs.OneRefusal.{turned_same}
use Rattle.rows.proofs.Same.{same_wire, step_at_same}
use Rattle.sheet.specs.Sheets.{Plan, Log as SheetLog, starting, end, Next}
use Rattle.sheet.specs.Refusals.{StepFits}
use Rattle.sheet.specs.Runs.{Reached}
use Rattle.theory.proofs.Rows.{some_same}
use Rattle.theory.proofs.Sheets.{laid_good, next_same, reached_places}
use Rattle.book.specs.declared.verdict.Turn.{Turn}
use Rattle.book.specs.declared.verdict.Verdict.{Verdict}
use Rattle.book.specs.Books.{Takes, Judges}

gate_same : (g h : Gate) → gate g ≡ gate h → g ≡ h
gate_same g h e = cc

gate_not_swap : (g : Gate) (a b : ℕ) → gate g ≡ swap a b → ⊥
gate_not_swap g a b e = let z : ◌≡◌ {A = ℕ} 0 1 = cc in omega arith

swaps_same : (a b c d : ℕ) → swap a b ≡ swap c d → (a ≡ c) × (b ≡ d)
swaps_same a b c d e = (cc, cc)

module _ (p : Plan) (l : SheetLog) (reached : Reached p l) where
  turn_same : (t : Step) (u v : Turn) → Takes p l t u → Takes p l t v → u ≡ v
  turn_same t (Turn.Gate i) (Turn.Gate j) (g, e, n) (h, f, m) =
      ap Turn.Gate (next_same p l (laid_good p reached.plan) (reached_places p l reached) g i j n (subst (λ (x : Gate). Next p l x j) (gate_same h g (sym f ∙ e)) m))
  turn_same t (Turn.Gate i) (Turn.Exchange a b) (g, e, n) f = absurd (gate_not_swap g a.0 b.0 (sym e ∙ f))
  turn_same t (Turn.Exchange a b) (Turn.Gate i) f (g, e, n) = absurd (gate_not_swap g a.0 b.0 (sym e ∙ f))
  turn_same t (Turn.Exchange a b) (Turn.Exchange c d) e f =
      let s = swaps_same a.0 b.0 c.0 d.0 (sym e ∙ f) in λ i. Turn.Exchange (same_wire a c s.0 i) (same_wire b d s.1 i)

  pub one_verdict : (r : StepRow) (x y : Result Verdict Fault) → Judges p l r x → Judges p l r y → x ≡ y
  one_verdict r (Ok v) (Ok w) a b =
      let t : step_at v.action ≡ step_at w.action = some_same (sym a.decoded ∙ b.decoded) in
      let e : v.end ≡ w.end = a.ends ∙ ap (λ s. end p.chart (starting s r.start)) t ∙ sym b.ends in
      let u : v.turn ≡ w.turn = turn_same (step_at w.action) v.turn w.turn (subst (λ (s : Step). Takes p l s v.turn) t a.takes) b.takes in
      λ i. Ok (record { action = step_at_same v.action w.action t i; end = e i; turn = u i })
  one_verdict r (Ok v) (Err f) a b = absurd (a.accepted f.refusal f.place b.holds)
  one_verdict r (Err f) (Ok v) a b = absurd (b.accepted f.refusal f.place a.holds)
  one_verdict r (Err f) (Err g) a b = ap Err (turned_same (StepFits p l r) f g a b)
