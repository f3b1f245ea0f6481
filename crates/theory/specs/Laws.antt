-- The two laws of sheets: what kept steps do to any lawful machine, and which steps clear a plan.
use Rattle.std.specs.Prelude.{◌≡◌, ℕ, ◌≤◌, Bool, true, false, ◌↔◌, List, [], ◌∷◌, ◌++◌, map, length, Some}
use Rattle.rows.specs.declared.kind.Kind.{Kind}
use Rattle.rows.specs.declared.row.Step.{Step as StepRow}
use Rattle.rows.specs.Steps.{Gate, Step, gate, step_of}
use Rattle.machine.specs.Machines.{Acts, Lawful, run, exchanges}
use Rattle.chip.specs.Charts.{Chart, joined}
use Rattle.sheet.specs.Sheets.{Plan, Log, fresh, starting, untimed, end, at, NoneOpen, larger_free, freed}
use Rattle.sheet.specs.Runs.{AllKept, LaidPlan, Reached}

-- gates of the circuit as steps at the first places, in their order
abbrev pub at_first : Plan → List Gate → List Step
at_first p = map (λ g. gate (at p.first g))

-- the done gates, in circuit order
abbrev pub done_of : List Bool → List Gate → List Gate
done_of [] gs = []
done_of (d ∷ ds) [] = []
done_of (true ∷ ds) (g ∷ gs) = g ∷ done_of ds gs
done_of (false ∷ ds) (g ∷ gs) = done_of ds gs

-- the state by the sheet: the done gates at their first places, in circuit order, and then the kept exchanges in their order
abbrev pub planned : {State : Type 0} → Acts State → Plan → Log → State → State
planned m p l = run m (at_first p (done_of l.done p.gates) ++ exchanges (untimed l.steps))

-- the kept steps lead every lawful machine with the chip's wires, from whatever state, to the state by the sheet
abbrev pub FollowsCircuit : Plan → Log → Type 1
FollowsCircuit p l = (State : Type 0) (m : Acts State) → Lawful m → (u : State) →
    p.chart.wires ≤ m.wide u → run m (untimed l.steps) u ≡ planned m p l u

-- the rows write these steps and keep shape, coupling and clock, each with all before it counted as kept
abbrev pub InRules : Chart → List ℕ → List StepRow → List Step → Type 0
InRules c free [] [] = Unit {0}
InRules c free [] (t ∷ ts) = ⊥
InRules c free (r ∷ rs) [] = ⊥
InRules c free (r ∷ rs) (t ∷ ts) =
    (step_of c.wires r ≡ Some t) × (joined c t ≡ true) × (larger_free free t ≤ r.start) ×
    (end c (starting t r.start) ≤ 4294967295) × InRules c (freed free t (end c (starting t r.start))) rs ts

-- no lawful machine with the chip's wires that knows every kind, from whatever state, ends otherwise after the steps
-- than after the circuit at its first places and then the steps' exchanges
abbrev pub NoneCanTell : Plan → List Step → Type 1
NoneCanTell p ts = (State : Type 0) (m : Acts State) → Lawful m → (u : State) →
    m.wide u ≡ p.chart.wires → ((κ : Kind) → m.knows u κ ≡ true) →
    run m ts u ≡ run m (at_first p p.gates ++ exchanges ts) u

-- whatever steps are kept, in whatever order: they do what the done gates and the kept exchanges do
abbrev pub StandsBySheet : Type 1
StandsBySheet = (p : Plan) (l : Log) → Reached p l → FollowsCircuit p l

-- rows in the rules, offered to a freshly laid plan: all are kept and no gate is left open if and only if no machine can tell
abbrev pub ClearsAlone : Type 1
ClearsAlone = (p : Plan) → LaidPlan p → (rows : List StepRow) (ts : List Step) →
    InRules p.chart (fresh p).free rows ts → length rows ≤ 262144 →
    (((l : Log) × AllKept p (fresh p) rows l × NoneOpen p l) ↔ NoneCanTell p ts)
