-- The plan that a chip, first places and a circuit mean.
use Rattle.chip.specs.declared.chip.Chip.{Chip}
use Rattle.chip.specs.Chips.{chart_of}
use Rattle.places.specs.declared.places.Places.{Places}
use Rattle.places.specs.Placing.{places_of}
use Rattle.sheet.specs.Sheets.{Plan}
use Rattle.plan.specs.declared.circuit.Circuit.{Circuit}
use Rattle.plan.specs.Circuits.{gates_in}

abbrev pub plan_at : Chip → Places → Circuit → Plan
plan_at chip first circuit = record { chart = chart_of chip; first = places_of first; gates = gates_in circuit }
