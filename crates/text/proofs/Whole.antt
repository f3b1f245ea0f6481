-- The answer to a whole text from what the parts of the reader find.
use Rattle.std.proofs.Common.{◌≡◌, ℕ, ◌+◌, min, List, [], ◌∷◌, ◌++◌, map, length, take, drop, Ok, Err, sym, refl, ap, ◌∙◌, subst, inl, inr}
use Rattle.std.proofs.lemmas.List.{length-map, take_at}
use Rattle.rows.specs.declared.refusal.Fault.{Fault}
use Rattle.rows.specs.declared.row.Gate.{Gate as GateRow}
use Rattle.rows.specs.Steps.{row_of_gate}
use Rattle.text.specs.Reading.{lines, statements, statements_of, Statement, Gates, FirstRefused, IsCircuit, IsRefused, room, Reading}
use Rattle.text.specs.declared.circuit.Circuit.{Circuit}
use Rattle.text.specs.Steps.{Headed, NotHeaded, Filled, Found}
use Rattle.text.specs.Writing.{ReadAs}
use Rattle.text.proofs.Back.{read_as}

pub not_headed : (room : ℕ) (ss : List Statement) (f : Fault) → NotHeaded ss f → IsRefused room ss f
not_headed room [] f h = h
not_headed room (s ∷ ss) f h = inl h

pub refused_later : (room : ℕ) (ss rest : List Statement) (n : ℕ) (f : Fault) → Headed ss n rest → FirstRefused n room rest f → IsRefused room ss f
refused_later room [] rest n f h r = absurd h
refused_later room (s ∷ ss) rest n f h r = inr (n, h.0, subst (λ ss. FirstRefused n room ss f) h.1 r)

pub circuit_read : (room : ℕ) (ss rest : List Statement) (n count : ℕ) (blank table : List GateRow) → Headed ss n rest → (r : Filled n room rest count blank table) → IsCircuit room ss n r.gs
circuit_read room [] rest n count blank table h r = absurd h
circuit_read room (s ∷ ss) rest n count blank table h r = (h.0, subst (λ ss. Gates n room ss r.gs) h.1 r.gates)

-- the parts of a text together
pub found : (room : ℕ) (ss rest : List Statement) (n count : ℕ) (blank table : List GateRow) → Headed ss n rest → Filled n room rest count blank table → Found room ss (record { qubits = n; gates = count }) table
found room ss rest n count blank table h r =
    let long : length (map row_of_gate r.gs) ≡ count = length-map r.gs row_of_gate ∙ sym r.counted in
    record {
      gs = r.gs;
      circuit = circuit_read room ss rest n count blank table h r;
      counted = r.counted;
      fit = r.fit;
      rows = ap (take count) r.rows ∙ take_at (map row_of_gate r.gs) (drop (length (map row_of_gate r.gs)) blank) count long;
    }

-- the rows copied from the front of the table
pub copied : (text : List ℕ) (c : Circuit) (table old new : List GateRow) → Found (room old) (statements_of text) c table → new ≡ take c.gates table ++ drop c.gates old → Reading text old new (Ok c)
copied text c table old new f e =
    let long : c.gates ≡ length (map row_of_gate f.gs) = f.counted ∙ sym (length-map f.gs row_of_gate) in
    (f.gs, f.circuit, f.counted, e ∙ (λ i. f.rows i ++ drop (long i) old))

-- a refusal leaves any rows of that number as they are
pub refused_as : (text : List ℕ) (lent : ℕ) (f : Fault) → IsRefused (min 1024 lent) (statements_of text) f → (old : List GateRow) → length old ≡ lent → ReadAs text old old (Err f)
refused_as text lent f h old e = read_as text old old (Err f) (subst (λ k. IsRefused (min 1024 k) (statements_of text) f) (sym e) h, refl)

-- a lexer over all of a text has its statements before it
pub from_start : (text rest : List ℕ) (passed : ℕ) → rest ≡ text → passed ≡ 0 → statements (passed + 1) (lines rest) ≡ statements_of text
from_start text rest passed e z = λ i. statements (z i + 1) (lines (e i))
