-- The report on a whole text from its reading.
use Rattle.std.proofs.Common.{◌≡◌, ℕ, ◌-◌, ◌≤◌, List, [], ◌∷◌, map, length, take, drop, Ok, Err, sym, ap, ◌∙◌, subst, arith}
use Rattle.std.proofs.lemmas.List.{length-map, take_at}
use Rattle.rows.specs.declared.refusal.Fault.{Fault}
use Rattle.rows.specs.declared.row.Gate.{Gate as GateRow}
use Rattle.rows.specs.Steps.{Gate, gate_of, row_of_gate}
use Rattle.text.specs.declared.circuit.Circuit.{Circuit}
use Rattle.text.specs.Reading.{Statement, statements_of, IsCircuit, IsRefused, room, Reading}
use Rattle.text.proofs.Decoding.{circuit_fits, circuit_decodes}
use Rattle.chains.specs.Chained.{Decodes}
use Rattle.rows.specs.Printed.{refusal_line}
use Rattle.report.specs.Report.{Shows, Reports, circuit, refused}

pub reports_same : (text out bytes : List ℕ) → Reports text out → bytes ≡ out → Reports text bytes
reports_same text out bytes h e = subst (Reports text) (sym e) h

room_is : (old : List GateRow) → length old ≡ 1024 → room old ≡ 1024
room_is old h = omega (arith, h)

headed_size : (room : ℕ) (ss : List Statement) (n : ℕ) (gs : List Gate) → IsCircuit room ss n gs → (1 ≤ n) × (n ≤ 64)
headed_size room [] n gs h = absurd h
headed_size room (s ∷ ss) n gs h = (h.0.some, h.0.few)

module _ (text : List ℕ) (old new : List GateRow) (long : length old ≡ 1024) (c : Circuit) (h : Reading text old new (Ok c)) where
  -- the rows read decode to the gates
  pub rows_decode : Decodes c.qubits (take (c.gates - 0) new) h.0
  rows_decode =
      let count : c.gates - 0 ≡ length (map row_of_gate h.0) = omega (arith, h.2, length-map h.0 row_of_gate) in
      let front : take (c.gates - 0) new ≡ map row_of_gate h.0 =
      ap (take (c.gates - 0)) h.3 ∙ take_at (map row_of_gate h.0) (drop (length (map row_of_gate h.0)) old) (c.gates - 0) (sym count) in
      ap (map (gate_of c.qubits)) front ∙ circuit_decodes (room old) (statements_of text) c.qubits h.0 h.1

  pub circuit_reported : length text ≤ 65536 → (out : List ℕ) → Shows c.qubits h.0 out → Reports text out
  circuit_reported short out shows = circuit short c.qubits h.0 out (subst (λ k. IsCircuit k (statements_of text) c.qubits h.0) (room_is old long) h.1) shows

  -- 1 to 64 qubits, and few gates
  pub circuit_small : (1 ≤ c.qubits) × (c.qubits ≤ 64) × (length h.0 ≤ 4294967295)
  circuit_small =
      let size = headed_size (room old) (statements_of text) c.qubits h.0 h.1 in
      (size.0, size.1, omega (arith, circuit_fits (room old) (statements_of text) c.qubits h.0 h.1, room_is old long))

pub refusal_reported : (text : List ℕ) (old new : List GateRow) → length old ≡ 1024 → (f : Fault) → Reading text old new (Err f) → length text ≤ 65536 → Reports text (refusal_line f)
refusal_reported text old new long f h short = refused short f (subst (λ k. IsRefused k (statements_of text) f) (room_is old long) h.0)
