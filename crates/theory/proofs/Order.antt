-- The done gates can be brought into circuit order at their first places.
use Rattle.std.proofs.Common.{◌≡◌, ℕ, zero, suc, ◌<◌, ◌≤◌, Bool, true, false, ◌||◌, eqb, List, [], ◌∷◌, ◌++◌, length, get_or, set, sym, refl, ap, ◌∙◌, le_of_suc-le-suc, not-suc-le-zero, arith}
use mathlib.Core.Bool.{or-true}
use lib.Dec.{eqb-suc-suc, eqb-zero-suc, eqb-suc-zero}
use Rattle.std.specs.List.{AllByRecursion}
use Rattle.std.proofs.ByRecursion.{All-from_get_or}
use Rattle.std.proofs.lemmas.Bool.{true≢false}
use Rattle.rows.specs.declared.kind.Kind.{Kind}
use Rattle.rows.specs.Steps.{Gate, one, Step, fits, shares}
use Rattle.machine.specs.Machines.{Acts, Lawful, act, run}
use Rattle.sheet.specs.Sheets.{Plan, at}
use Rattle.sheet.specs.Runs.{GoodPlan}
use Rattle.theory.specs.Laws.{at_first, done_of}
use Rattle.theory.proofs.Places.{fits_at, shares_at}

-- one flag set: it reads true, the others as before
pub flag_set : (ds : List Bool) (i j : ℕ) → get_or (set ds i true) j true ≡ (eqb i j || get_or ds j true)
flag_set [] i j = sym (or-true (eqb i j))
flag_set (d ∷ ds) zero zero = refl
flag_set (d ∷ ds) zero (suc j) = rw eqb-zero-suc
flag_set (d ∷ ds) (suc i) zero = rw eqb-suc-zero
flag_set (d ∷ ds) (suc i) (suc j) = rw eqb-suc-suc (flag_set ds i j)

pub run_append : {State : Type 0} (m : Acts State) (ts ss : List Step) (u : State) → run m (ts ++ ss) u ≡ run m ss (run m ts u)
run_append m [] ss u = refl
run_append m (t ∷ ts) ss u = run_append m ts ss (act m t u)

-- the gates fit n places
abbrev pub AllFit : ℕ → List Gate → Type 0
AllFit n = AllByRecursion (λ g. fits n g ≡ true)

-- the gate of a number
abbrev pub number : List Gate → ℕ → Gate
number gs i = get_or gs i (one Kind.X 0 0)

pub plan_fits : (p : Plan) → GoodPlan p → AllFit (length p.first) p.gates
plan_fits p good = All-from_get_or (λ g. fits (length p.first) g ≡ true) p.gates (one Kind.X 0 0) (λ i h. (good.gates i h).fitting)

module _ (p : Plan) (good : GoodPlan p) where
  -- a gate of the circuit at its first places
  pub fits_first : (W : ℕ) → p.chart.wires ≤ W → (g : Gate) → fits (length p.first) g ≡ true → fits W (at p.first g) ≡ true
  fits_first = fits_at p.chart.wires (length p.first) p.first good.places

  shares_first : (g e : Gate) → fits (length p.first) g ≡ true → fits (length p.first) e ≡ true → shares g e ≡ false →
      shares (at p.first g) (at p.first e) ≡ false
  shares_first = shares_at p.chart.wires (length p.first) p.first good.places

  module _ {State : Type 0} (m : Acts State) (law : Lawful m) where
    wide_after : (g : Gate) (u : State) → p.chart.wires ≤ m.wide u → p.chart.wires ≤ m.wide (m.gated g u)
    wide_after g u h = rw (law.wide_gated g u) h

    -- a gate passes all the done gates if it shares no qubit with them
    past : (g : Gate) → fits (length p.first) g ≡ true → (ds : List Bool) (gs : List Gate) (u : State) → p.chart.wires ≤ m.wide u →
        AllFit (length p.first) gs →
        ((j : ℕ) → j < length gs → get_or ds j true ≡ true → shares g (number gs j) ≡ false) →
        run m (at_first p (done_of ds gs)) (m.gated (at p.first g) u) ≡ m.gated (at p.first g) (run m (at_first p (done_of ds gs)) u)
    past g f [] gs u w fs free = refl
    past g f (true ∷ ds) [] u w fs free = refl
    past g f (false ∷ ds) [] u w fs free = refl
    past g f (true ∷ ds) (e ∷ gs) u w fs free =
        ap (run m (at_first p (done_of ds gs)))
        (law.law_1 (at p.first g) (at p.first e) u (fits_first _ w g f) (fits_first _ w e fs.0) (shares_first g e f fs.0 (free 0 (omega arith) refl))) ∙
        past g f ds gs (m.gated (at p.first e) u) (wide_after _ u w) fs.1 (λ j h t. free (suc j) (omega arith) t)
    past g f (false ∷ ds) (e ∷ gs) u w fs free = past g f ds gs u w fs.1 (λ j h t. free (suc j) (omega arith) t)

    -- a gate done now can be done in its place, if it shares no qubit with the later done ones
    pub insert : (ds : List Bool) (gs : List Gate) (i : ℕ) (u : State) → p.chart.wires ≤ m.wide u → AllFit (length p.first) gs →
        i < length gs → get_or ds i true ≡ false →
        ((j : ℕ) → i < j → j < length gs → get_or ds j true ≡ true → shares (number gs i) (number gs j) ≡ false) →
        m.gated (at p.first (number gs i)) (run m (at_first p (done_of ds gs)) u) ≡ run m (at_first p (done_of (set ds i true) gs)) u
    insert [] gs i u w fs h o free = absurd (true≢false o)
    insert (d ∷ ds) [] i u w fs h o free = absurd (not-suc-le-zero h)
    insert (true ∷ ds) (g ∷ gs) zero u w fs h o free = absurd (true≢false o)
    insert (false ∷ ds) (g ∷ gs) zero u w fs h o free =
        sym (past g fs.0 ds gs u w fs.1 (λ j k t. free (suc j) (omega arith) (omega arith) t))
    insert (true ∷ ds) (g ∷ gs) (suc i) u w fs h o free =
        insert ds gs i (m.gated (at p.first g) u) (wide_after _ u w) fs.1 (le_of_suc-le-suc h) o (λ j k l t. free (suc j) (omega arith) (omega arith) t)
    insert (false ∷ ds) (g ∷ gs) (suc i) u w fs h o free =
        insert ds gs i u w fs.1 (le_of_suc-le-suc h) o (λ j k l t. free (suc j) (omega arith) (omega arith) t)
