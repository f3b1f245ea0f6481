-- What laying answers.
use Rattle.std.specs.Prelude.{◌≡◌, ℕ, List}
use Rattle.rows.specs.declared.place.Wire.{Wire}
use Rattle.rows.specs.declared.row.Gate.{Gate as GateRow}
use Rattle.rows.specs.declared.refusal.Refusal.{Refusal}
use Rattle.rows.specs.Refusals.{Accepted}
use Rattle.places.specs.Placing.{numbers}
use Rattle.sheet.specs.Sheets.{Plan as SheetPlan, unlaid, Layout, plan_of}
use Rattle.sheet.specs.Refusals.{LayFits}
use Rattle.plan.specs.declared.ability.Ability.{Ability}
use Rattle.plan.specs.declared.layout.Layout.{Layout as Given}
use Rattle.plan.specs.declared.plan.Plan.{Plan}
use Rattle.plan.specs.Abilities.{known}
use Rattle.plan.specs.Plans.{plan_at}

-- the plan that is laid
abbrev pub plan_in : Plan → SheetPlan
plan_in s = plan_at s.chip s.first s.circuit

-- the layout of these five
abbrev pub layout : ℕ → List ℕ → ℕ → List Wire → List GateRow → Layout
layout wires records qubits places rows = record { wires = wires; records = records; qubits = qubits; places = numbers places; rows = rows }

-- the layout that a call is given
abbrev pub layout_in : Given → Layout
layout_in x = layout x.chip.wires x.chip.bytes.now x.qubits x.places.now x.gates.now

-- the conditions of refusals, over a machine of this ability
abbrev pub Fits : Ability → Layout → Refusal → ℕ → Type 0
Fits a x = LayFits a.width (known a.kinds) unlaid x

-- no condition holds, and this is the plan of the layout
pub record LaysPlan (a : Ability) (x : Layout) (s : Plan) : Type 0 where
  pub accepted : Accepted (Fits a x)
  pub given : plan_in s ≡ plan_of x
