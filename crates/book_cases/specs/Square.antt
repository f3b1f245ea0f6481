-- Sheets worked by hand on the square chip, from the definitions alone.
use Rattle.std.specs.Prelude.{◌≡◌, ℕ, true, false, List, [], ◌∷◌}
use Rattle.rows.specs.declared.kind.Kind.{Kind}
use Rattle.rows.specs.declared.row.Gate.{Gate as GateRow}
use Rattle.rows.specs.declared.row.Step.{Step as StepRow}
use Rattle.rows.specs.declared.refusal.Refusal.{Refusal}
use Rattle.rows.specs.Steps.{one, two, Step, gate, swap, gate_row, step_row}
use Rattle.rows.specs.Refusals.{Accepted, Turned}
use Rattle.chip.specs.Worked.{square_records}
use Rattle.sheet.specs.Sheets.{Plan, Log, unlaid, Layout, plan_of, fresh, starting, tally, NoneOpen}
use Rattle.sheet.specs.Refusals.{LayFits, StepFits, ClearFits}
use Rattle.sheet.specs.Runs.{Kept, AllKept}
use Rattle.theory.specs.Laws.{NoneCanTell}

-- LAYOUTS

-- a circuit of 4 qubits on the square chip: couplings 0-1, 0-2, 1-3, 2-3, one-qubit kinds 1 cycle, swap 6, others 2; each
-- qubit begins on the wire of its number
abbrev pub on_square : List GateRow → Layout
on_square rows = record { wires = 4; records = square_records; qubits = 4; places = 0 ∷ 1 ∷ 2 ∷ 3 ∷ []; rows = rows }

-- t q2, cnot q0,q3
abbrev pub given : Layout
given = on_square (gate_row 7 2 0 0 ∷ gate_row 9 0 3 0 ∷ [])

abbrev pub plan : Plan
plan = plan_of given

-- h q0, cnot q0,q1
abbrev pub chained : Plan
chained = plan_of (on_square (gate_row 4 0 0 0 ∷ gate_row 9 0 1 0 ∷ []))

-- no gates
abbrev pub bare : Plan
bare = plan_of (on_square [])

-- LOGS OF THE FIRST CIRCUIT

-- 0 t 2
abbrev pub after_t : Log
after_t = record {
  places = 0 ∷ 1 ∷ 2 ∷ 3 ∷ [];
  done = true ∷ false ∷ [];
  free = 0 ∷ 0 ∷ 1 ∷ 0 ∷ [];
  steps = starting (gate (one Kind.T 0 2)) 0 ∷ [];
}

-- 0 t 2, 1 swap 2,3
abbrev pub after_t_swap : Log
after_t_swap = record {
  places = 0 ∷ 1 ∷ 3 ∷ 2 ∷ [];
  done = true ∷ false ∷ [];
  free = 0 ∷ 0 ∷ 7 ∷ 7 ∷ [];
  steps = starting (gate (one Kind.T 0 2)) 0 ∷ starting (swap 2 3) 1 ∷ [];
}

-- swap 0,1 alone, with its start and its end
abbrev pub after_swap : ℕ → ℕ → Log
after_swap from to = record {
  places = 1 ∷ 0 ∷ 2 ∷ 3 ∷ [];
  done = false ∷ false ∷ [];
  free = to ∷ to ∷ 0 ∷ 0 ∷ [];
  steps = starting (swap 0 1) from ∷ [];
}

-- 0 swap 0,1, 0 t 2
abbrev pub after_swap_t : Log
after_swap_t = record {
  places = 1 ∷ 0 ∷ 2 ∷ 3 ∷ [];
  done = true ∷ false ∷ [];
  free = 6 ∷ 6 ∷ 1 ∷ 0 ∷ [];
  steps = starting (swap 0 1) 0 ∷ starting (gate (one Kind.T 0 2)) 0 ∷ [];
}

-- the routed steps: 0 t 2, 0 swap 0,1, 6 cnot 1,3
abbrev pub routed : List Step
routed = gate (one Kind.T 0 2) ∷ swap 0 1 ∷ gate (two Kind.Cnot 0 1 3) ∷ []

abbrev pub routed_rows : List StepRow
routed_rows = step_row 7 2 0 0 0 ∷ step_row 12 0 1 0 0 ∷ step_row 9 1 3 0 6 ∷ []

abbrev pub at_end : Log
at_end = record {
  places = 1 ∷ 0 ∷ 2 ∷ 3 ∷ [];
  done = true ∷ true ∷ [];
  free = 6 ∷ 8 ∷ 1 ∷ 8 ∷ [];
  steps = starting (gate (one Kind.T 0 2)) 0 ∷ starting (swap 0 1) 0 ∷ starting (gate (two Kind.Cnot 0 1 3)) 6 ∷ [];
}

-- CASES

pub record SquareCases : Type 0 where
  -- t q2, cnot q0,q3 is laid over a machine of 4 wires that knows every kind
  pub laid : Accepted (LayFits 4 (λ κ. true) unlaid given)
  -- cnot 0,3 at 0, offered first: the wires are not coupled
  pub cnot_first : Turned (StepFits plan (fresh plan) (step_row 9 0 3 0 0)) (record { refusal = Refusal.Uncoupled; place = 0 })
  -- t 1 at 0, offered first: no gate of the front is t on wire 1
  pub other_t : Turned (StepFits plan (fresh plan) (step_row 7 1 0 0 0)) (record { refusal = Refusal.NotNext; place = 0 })
  -- t 2 at 0, offered first, is kept
  pub t_kept : Kept plan (fresh plan) (step_row 7 2 0 0 0) after_t
  -- then swap 2,3 at 0: wire 2 is free from cycle 1 on
  pub swap_early : Turned (StepFits plan after_t (step_row 12 2 3 0 0)) (record { refusal = Refusal.Busy; place = 1 })
  -- and at 1 it is kept
  pub swap_in_time : Kept plan after_t (step_row 12 2 3 0 1) after_t_swap
  -- swap 0,1 at 4,294,967,289, offered first, ends at the last cycle, and is kept
  pub swap_last : Kept plan (fresh plan) (step_row 12 0 1 0 4294967289) (after_swap 4294967289 4294967295)
  -- one cycle later it would end after the last cycle
  pub swap_late : Turned (StepFits plan (fresh plan) (step_row 12 0 1 0 4294967290)) (record { refusal = Refusal.Late; place = 0 })
  -- swap 0,1 at 0, offered first, is kept, and after it t 2 at 0: it shares no wire with the exchange
  pub swap_first : Kept plan (fresh plan) (step_row 12 0 1 0 0) (after_swap 0 6)
  pub t_after_swap : Kept plan (after_swap 0 6) (step_row 7 2 0 0 0) after_swap_t
  -- clearing after t 2 alone: gate 1 is open
  pub cnot_open : Turned (ClearFits plan after_t) (record { refusal = Refusal.Open; place = 1 })
  -- the routed steps are kept one after the other; no gate is then open, and the plan is cleared
  pub routed_kept : AllKept plan (fresh plan) routed_rows at_end
  pub none_open : NoneOpen plan at_end
  pub cleared : Accepted (ClearFits plan at_end)
  pub counted : tally plan at_end ≡ record { gates = 2; kept = 3; exchanges = 1; last = 8 }
  -- a plan without gates is cleared at once
  pub bare_cleared : Accepted (ClearFits bare (fresh bare))
  pub bare_counted : tally bare (fresh bare) ≡ record { gates = 0; kept = 0; exchanges = 0; last = 0 }
  -- h q0, cnot q0,q1: cnot 0,1 at 0, offered first, has to wait for h, with which it shares q0
  pub h_not_passed : Turned (StepFits chained (fresh chained) (step_row 9 0 1 0 0)) (record { refusal = Refusal.NotNext; place = 0 })

-- no lawful machine of 4 wires that knows every kind ends otherwise after the routed steps than after the circuit at its first
-- places and then swap 0,1
abbrev pub RoutedAlike : Type 1
RoutedAlike = NoneCanTell plan routed
