-- The laws of routing: one step is made next, it meets the rules, routing has one outcome, and with enough rows no gate is left open.
use Rattle.std.specs.Prelude.{◌≡◌, ℕ, ◌+◌, ◌<◌, ◌≤◌, true, List, length, Some, None, Option, slice_index}
use Rattle.rows.specs.declared.refusal.Fault.{Fault}
use Rattle.rows.specs.Steps.{Timed, step_of, row_of}
use Rattle.chip.specs.Charts.{GoodChart, joined}
use Rattle.sheet.specs.Sheets.{Plan, Log, Open, NoneOpen, Ordered, larger_free, kept}
use Rattle.sheet.specs.Runs.{Reached}
use Rattle.routing.specs.Routing.{Makes, Routed, enough, ExactlyOne}

-- while a gate is open exactly one step is made next, and then none
pub record OneStep (p : Plan) (l : Log) (swaps : ℕ) : Type 0 where
  pub while_open : (i : ℕ) → i < length p.gates → Open l i → ExactlyOne (Makes p l swaps)
  pub then_none : NoneOpen p l → (t : Timed) → ¬ Makes p l swaps t

-- the step meets shape, coupling and order, and starts at the larger free cycle of its wires
pub record RulesMet (p : Plan) (l : Log) (t : Timed) : Type 0 where
  pub shape : step_of p.chart.wires (row_of t) ≡ Some t.step
  pub coupling : joined p.chart t.step ≡ true
  pub clock : larger_free l.free t.step ≡ t.start
  pub order : Ordered p l t.step

-- every step made next meets the rules
abbrev pub MeetsRules : Plan → Log → ℕ → Type 0
MeetsRules p l swaps = (t : Timed) → Makes p l swaps t → RulesMet p l t

-- what a routing comes to: the steps made and kept, the log left, and the refusal that ended it, if one did
pub record Outcome : Type 0 where
  pub steps : List Timed
  pub log : Log
  pub refused : Option Fault

-- routing comes to an end, and to one outcome alone
abbrev pub RoutesOnce : Plan → Log → ℕ → ℕ → ℕ → Type 0
RoutesOnce p l left made swaps = ExactlyOne (λ (o : Outcome). Routed p l left made swaps o.steps o.log o.refused)

-- routing ended without refusal, no gate open, in so many steps at most
pub record AllDone (p : Plan) (ts : List Timed) (l' : Log) (e : Option Fault) (most : ℕ) : Type 0 where
  pub not_refused : e ≡ None
  pub none_open : NoneOpen p l'
  pub few : length ts ≤ most

-- with enough rows, room for so many steps in the log, and no wire free later than cycle 2^31, routing leaves no gate open
abbrev pub NeverStuck : Plan → Log → Type 0
NeverStuck p l = (rows : ℕ) → ((w : ℕ) → slice_index l.free w ≤ 2147483648) → enough p l ≤ rows → enough p l + kept l ≤ 262144 →
    (ts : List Timed) (l' : Log) (e : Option Fault) → Routed p l rows 0 0 ts l' e → AllDone p ts l' e (enough p l)

-- all this of every sheet that can come about on a chip as it should be
pub record RoutingLaws (p : Plan) (l : Log) : Type 0 where
  pub one_step : (swaps : ℕ) → OneStep p l swaps
  pub meets_rules : (swaps : ℕ) → MeetsRules p l swaps
  pub routes_once : (left made swaps : ℕ) → RoutesOnce p l left made swaps
  pub never_stuck : NeverStuck p l

abbrev pub RoutingLawful : Type 0
RoutingLawful = (p : Plan) (l : Log) → Reached p l → GoodChart p.chart → RoutingLaws p l
