-- What the parts of a plan give for the whole of it.
use Rattle.std.proofs.Common.{◌≡◌, ℕ, ◌<◌, ◌≤◌, true, false, List, length, sym, ap, ◌∙◌, subst, arith}
use Rattle.rows.specs.declared.place.Wire.{Wire}
use Rattle.rows.specs.declared.row.Gate.{Gate as GateRow}
use Rattle.rows.specs.declared.refusal.Refusal.{Refusal}
use Rattle.rows.specs.declared.refusal.Fault.{Fault}
use Rattle.rows.specs.Refusals.{Accepted, Turned}
use Rattle.rows.specs.Steps.{kind_of, gates_of}
use Rattle.chip.specs.declared.chip.Chip.{Chip}
use Rattle.chip.specs.Charts.{Chart, chart, ChipFits}
use Rattle.chip.specs.Chips.{chart_of}
use Rattle.places.specs.declared.places.Places.{Places}
use Rattle.places.specs.Placing.{Lays, Misplaced, numbers}
use Rattle.sheet.specs.Refusals.{BadPlaces, UnknownRow}
use Rattle.sheet.specs.Sheets.{plan_of}
use Rattle.sheet.specs.Runs.{LaidPlan}
use Rattle.plan.specs.declared.ability.Ability.{Ability}
use Rattle.plan.specs.declared.circuit.Circuit.{Circuit}
use Rattle.plan.specs.Abilities.{known}
use Rattle.plan.specs.Circuits.{gates_in, number, Reads, Miswritten}
use Rattle.plan.specs.Laying.{layout, Fits}
use Rattle.plan.specs.Plans.{plan_at}
use Rattle.plan.proofs.Laying.{turned_places, turned_rows, turned_width, turned_kind, accepted_all, as_many, unknown_at, known_at}

module _ (a : Ability) (wires : ℕ) (records : List ℕ) (qubits : ℕ) (ps : List Wire) (rows : List GateRow)
    (chip : Chip) (chip_good : Accepted (ChipFits wires records)) (same_chart : chart_of chip ≡ chart wires records) where
  same_wires : (chart_of chip).wires ≡ wires
  same_wires = ap (λ (h : Chart). h.wires) same_chart

  pub first_turned : (f : Fault) → Misplaced (chart_of chip).wires qubits (numbers ps) f → Turned (Fits a (layout wires records qubits ps rows)) f
  first_turned f m = turned_places a.width (known a.kinds) (layout wires records qubits ps rows) chip_good f
      (subst (λ (n : ℕ). Misplaced n qubits (numbers ps) f) same_wires m)

  module _ (first : Places) (lays : Lays (chart_of chip).wires qubits (numbers ps) first) where
    places_good : (q : ℕ) → ¬ BadPlaces wires qubits (numbers ps) q
    places_good = subst (λ (n : ℕ). (q : ℕ) → ¬ BadPlaces n qubits (numbers ps) q) same_wires lays.good

    pub circuit_turned : (f : Fault) → Miswritten qubits rows f → Turned (Fits a (layout wires records qubits ps rows)) f
    circuit_turned f m = turned_rows a.width (known a.kinds) (layout wires records qubits ps rows) chip_good places_good f m

    module _ (circuit : Circuit) (reads : Reads qubits rows circuit) where
      pub width_turned : (w : ℕ) → w ≡ a.width → w < wires → Turned (Fits a (layout wires records qubits ps rows)) (record { refusal = Refusal.Narrow; place = w })
      width_turned w e l = subst (λ (v : ℕ). Turned (Fits a (layout wires records qubits ps rows)) (record { refusal = Refusal.Narrow; place = v })) (sym e)
          (turned_width a.width (known a.kinds) (layout wires records qubits ps rows) chip_good places_good reads.good (omega arith))

      -- gate i, by the circuit and by the rows
      same_kind : (i : ℕ) → known a.kinds (kind_of (number (gates_in circuit) i)) ≡ known a.kinds (kind_of (number (gates_of qubits rows) i))
      same_kind i = ap (λ gs. known a.kinds (kind_of (number gs i))) reads.same

      same_length : length (gates_in circuit) ≡ length (gates_of qubits rows)
      same_length = ap length reads.same

      pub kind_turned : wires ≤ a.width → (i : ℕ) → i < length (gates_in circuit) → known a.kinds (kind_of (number (gates_in circuit) i)) ≡ false →
          ((j : ℕ) → j < i → known a.kinds (kind_of (number (gates_in circuit) j)) ≡ true) →
          Turned (Fits a (layout wires records qubits ps rows)) (record { refusal = Refusal.UnknownKind; place = i })
      kind_turned wide i l e before =
          let x = layout wires records qubits ps rows in
          turned_kind a.width (known a.kinds) x chip_good places_good reads.good wide i
          (unknown_at a.width (known a.kinds) x reads.good i (omega (arith, same_length)) (sym (same_kind i) ∙ e))
          (λ j h. known_at a.width (known a.kinds) x reads.good j (sym (same_kind j) ∙ before j h))

      pub all_accepted : wires ≤ a.width → ((i : ℕ) → i < length (gates_in circuit) → known a.kinds (kind_of (number (gates_in circuit) i)) ≡ true) →
          Accepted (Fits a (layout wires records qubits ps rows))
      all_accepted wide all =
          let x = layout wires records qubits ps rows in
          accepted_all a.width (known a.kinds) x chip_good places_good reads.good wide
          (λ i u. known_at a.width (known a.kinds) x reads.good i (sym (same_kind i) ∙ all i (omega (arith, same_length, as_many_of u))) u)
        where
          as_many_of : {i : ℕ} → UnknownRow (known a.kinds) qubits rows i → i < length (gates_of qubits rows)
          as_many_of u = omega (arith, u.listed, as_many a.width (known a.kinds) (layout wires records qubits ps rows) reads.good)

      pub plan_given : plan_at chip first circuit ≡ plan_of (layout wires records qubits ps rows)
      plan_given = λ i. record { chart = same_chart i; first = lays.same i; gates = reads.same i }

      pub plan_laid : Accepted (Fits a (layout wires records qubits ps rows)) → LaidPlan (plan_at chip first circuit)
      plan_laid accepted = record { wide = a.width; knows = known a.kinds; layout = layout wires records qubits ps rows; accepted = accepted; given = plan_given }
