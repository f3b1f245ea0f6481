use Rattle.std.proofs.Common.{◌≡◌, ℕ, ◌<◌, take}
use Rattle.chip.specs.Chips.{chart_of}
use Rattle.sheet.specs.Refusals.{BadPlace}
use Rattle.places.specs.Placing.{places_of, numbers}
use Rattle.places.proofs.places.Places.place_all.Given as goal

abbrev pub invariant-loop-q : goal.invariant-loop-q
invariant-loop-q l =
    (l.table.wires ≡ (chart_of l.chip).wires)
    × (l.table.qubits ≡ l.q)
    × (places_of l.table ≡ numbers (take l.q l.places))
    × ((k : ℕ) → k < l.q → ¬ BadPlace (chart_of l.chip).wires (numbers l.places) k)
