-- A step that decodes, offered to a laid plan: what keeps it, and what turns it away. What clears a plan.
use Rattle.std.proofs.Common.{◌≡◌, ℕ, ◌<◌, ◌≤◌, Bool, true, ◌&&◌, ◌||◌, leb, Some, sym, refl, ap, ◌∙◌, arith, lit<}
use Rattle.std.proofs.lemmas.Bool.{true≢false}
use Rattle.std.proofs.lemmas.Bool.Decides.{nat_tests}
use Rattle.rows.specs.declared.row.Step.{Step as StepRow}
use Rattle.rows.specs.declared.refusal.Refusal.{Refusal}
use Rattle.rows.specs.Numbers.{rank}
use Rattle.rows.specs.Steps.{Step, gate, swap, step_of}
use Rattle.rows.specs.Refusals.{Accepted, Turned}
use Rattle.chip.specs.Charts.{joined}
use Rattle.sheet.specs.Sheets.{Plan, Log, kept, starting, end, larger_free, NoneOpen, Ordered, Keeps}
use Rattle.sheet.specs.Refusals.{StepFits, bad_step, uncoupled, busy, late, not_next, full, ClearFits, still_open}
use Rattle.sheet.specs.Runs.{Kept}
use Rattle.theory.proofs.Rows.{none_some, some_same}
use Rattle.theory.proofs.Sheets.{step_accepted}

-- coupling and clock, as far as their refusals rank below n
abbrev pub rules_below : ℕ → Plan → Log → ℕ → Step → Bool
rules_below n p l s t = (leb n 17 || joined p.chart t)
    && ((leb n 18 || leb (larger_free l.free t) s) && (leb n 19 || leb (end p.chart (starting t s)) 4294967295))

rules_kept : (n : ℕ) (p : Plan) (l : Log) (s : ℕ) (t : Step) → rules_below n p l s t ≡ true →
    (17 < n → joined p.chart t ≡ true) × (18 < n → larger_free l.free t ≤ s) × (19 < n → end p.chart (starting t s) ≤ 4294967295)
rules_kept n p l s t k = (λ h. grind (arith, nat_tests), λ h. grind (arith, nat_tests), λ h. grind (arith, nat_tests))

keeps_ordered : (p : Plan) (l : Log) (t : Step) (s : ℕ) (l' : Log) → Keeps p l t s l' → Ordered p l t
keeps_ordered p l (gate g) s l' (i, next, e) = (i, next)
keeps_ordered p l (swap a b) s l' e = tt

-- the place of a refusal is the number of kept steps
at_kept : {p : Plan} {l : Log} {r : StepRow} {x : Refusal} {q : ℕ} → StepFits p l r x q → q ≡ kept l
at_kept (bad_step a) = refl
at_kept (uncoupled t a b) = refl
at_kept (busy t a b) = refl
at_kept (late t a b) = refl
at_kept (not_next t a b) = refl
at_kept (full a) = refl

module _ {p : Plan} {l : Log} {r : StepRow} {t : Step} (d : step_of p.chart.wires r ≡ Some t) where
  -- where the rules of rank below n are kept, no refusal of such a rank has its condition
  none_below : (n : ℕ) → n ≤ 20 → rules_below n p l r.start t ≡ true → (x : Refusal) (q : ℕ) → rank x < n → ¬ StepFits p l r x q
  none_below n m k _ _ h (bad_step a) = none_some (sym a ∙ d)
  none_below n m k _ _ h (uncoupled t' a b) = true≢false (sym ((rules_kept n p l _ t k).0 h) ∙ ap (joined p.chart) (some_same (sym d ∙ a)) ∙ b)
  none_below n m k _ _ h (busy t' a b) = let z = ap (larger_free l.free) (some_same (sym d ∙ a)) in let f = (rules_kept n p l _ t k).1 h in omega arith
  none_below n m k _ _ h (late t' a b) =
      let z = ap (λ s. end p.chart (starting s r.start)) (some_same (sym d ∙ a)) in let e = (rules_kept n p l r.start t k).2 h in omega arith
  none_below n m k _ _ h (not_next t' a b) = omega arith
  none_below n m k _ _ h (full a) = omega arith

  -- the condition of a refusal holds, and the rules of lower rank are kept
  pub turned_by : (x : Refusal) → rank x ≤ 20 → rules_below (rank x) p l r.start t ≡ true → StepFits p l r x (kept l) →
      Turned (StepFits p l r) (record { refusal = x; place = kept l })
  turned_by x m k holds = record { holds = holds; first = λ q h f. let e = at_kept f in omega arith; least = none_below (rank x) m k }

  -- coupling, clock and order are kept, and there is room
  pub kept_by : {l' : Log} → rules_below 20 p l r.start t ≡ true → kept l < 262144 → Keeps p l t r.start l' → Kept p l r l'
  kept_by {l'} k room keeps = let (c, f, e) = rules_kept 20 p l r.start t k in record {
    accepted = step_accepted p l r t d (c (lit< tt)) (f (lit< tt)) (e (lit< tt)) (keeps_ordered p l t r.start l' keeps) room;
    step = t;
    decoded = d;
    keeps = keeps;
  }

-- a plan without open gates is cleared
pub clear_accepted : (p : Plan) (l : Log) → NoneOpen p l → Accepted (ClearFits p l)
clear_accepted p l none _ i (still_open h o) = none i h o
