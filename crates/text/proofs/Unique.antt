-- A text has exactly one reading.
use Rattle.std.proofs.Common.{◌≡◌, ℕ, ◌-◌, List, [], ◌∷◌, map, length, Ok, Err, codes, decimal, Result, sym, ap, ◌∙◌, subst, inl, inr, arith}
use Rattle.std.proofs.lemmas.List.{append_cancel_left}
use Rattle.rows.specs.declared.refusal.Fault.{Fault}
use Rattle.rows.specs.declared.row.Gate.{Gate as GateRow}
use Rattle.rows.specs.Steps.{Gate, row_of_gate}
use Rattle.rows.specs.Refusals.{Accepted, Turned}
use Rattle.rows.proofs.OneRefusal.{turned_same}
use Rattle.lines.specs.Grammar.{Heads}
use Rattle.lines.proofs.Decimal.{same_number}
use Rattle.lines.proofs.OneGate.{writes_same}
use Rattle.text.specs.declared.circuit.Circuit.{Circuit}
use Rattle.text.specs.Reading.{Statement, StatementFits, Gates, FirstRefused, IsCircuit, IsRefused, statements_of, room, filled, Reading}

heads_same : (line : List ℕ) (n m : ℕ) → Heads line n → Heads line m → n ≡ m
heads_same line n m h k =
    same_number n m (omega (arith, h.few)) (omega (arith, k.few)) (append_cancel_left (codes "qubits ") (decimal n) (decimal m) (sym h.is ∙ k.is))

gates_same : (n left : ℕ) (ss : List Statement) (gs hs : List Gate) → Gates n left ss gs → Gates n left ss hs → gs ≡ hs
gates_same n left [] gs hs p q = p ∙ sym q
gates_same n left (s ∷ ss) [] hs p q = absurd p
gates_same n left (s ∷ ss) (g ∷ gs) [] p q = absurd q
gates_same n left (s ∷ ss) (g ∷ gs) (h ∷ hs) p q =
    λ i. writes_same s.bytes g h p.1 q.1 i ∷ gates_same n (left - 1) ss gs hs p.2 q.2 i

-- what is accepted is not refused
not_both : (Fits : _) (f : Fault) → Accepted Fits → Turned Fits f → ⊥
not_both Fits f ok t = ok f.refusal f.place t.holds

gates_or_refused : (n left : ℕ) (ss : List Statement) (gs : List Gate) (f : Fault) → Gates n left ss gs → FirstRefused n left ss f → ⊥
gates_or_refused n left [] gs f p q = q
gates_or_refused n left (s ∷ ss) [] f p q = p
gates_or_refused n left (s ∷ ss) (g ∷ gs) f p (inl t) = not_both (StatementFits n left s) f p.0 t
gates_or_refused n left (s ∷ ss) (g ∷ gs) f p (inr q) = gates_or_refused n (left - 1) ss gs f p.2 q.1

first_same : (n left : ℕ) (ss : List Statement) (f g : Fault) → FirstRefused n left ss f → FirstRefused n left ss g → f ≡ g
first_same n left [] f g p q = absurd p
first_same n left (s ∷ ss) f g (inl t) (inl u) = turned_same (StatementFits n left s) f g t u
first_same n left (s ∷ ss) f g (inl t) (inr q) = absurd (not_both (StatementFits n left s) f q.0 t)
first_same n left (s ∷ ss) f g (inr p) (inl u) = absurd (not_both (StatementFits n left s) g p.0 u)
first_same n left (s ∷ ss) f g (inr p) (inr q) = first_same n (left - 1) ss f g p.1 q.1

circuit_same : (room : ℕ) (ss : List Statement) (n m : ℕ) (gs hs : List Gate) → IsCircuit room ss n gs → IsCircuit room ss m hs → (n ≡ m) × (gs ≡ hs)
circuit_same room [] n m gs hs p q = absurd p
circuit_same room (s ∷ ss) n m gs hs p q =
    let same = heads_same s.bytes n m p.0 q.0 in
    (same, gates_same m room ss gs hs (subst (λ k. Gates k room ss gs) same p.1) q.1)

circuit_or_refused : (room : ℕ) (ss : List Statement) (n : ℕ) (gs : List Gate) (f : Fault) → IsCircuit room ss n gs → IsRefused room ss f → ⊥
circuit_or_refused room [] n gs f p q = p
circuit_or_refused room (s ∷ ss) n gs f p (inl q) = q.0 n p.0
circuit_or_refused room (s ∷ ss) n gs f p (inr q) =
    gates_or_refused n room ss gs f p.1 (subst (λ k. FirstRefused k room ss f) (heads_same s.bytes q.0 n q.1 p.0) q.2)

refused_same : (room : ℕ) (ss : List Statement) (f g : Fault) → IsRefused room ss f → IsRefused room ss g → f ≡ g
refused_same room [] f g p q = p ∙ sym q
refused_same room (s ∷ ss) f g (inl p) (inl q) = p.1 ∙ sym q.1
refused_same room (s ∷ ss) f g (inl p) (inr q) = absurd (p.0 q.0 q.1)
refused_same room (s ∷ ss) f g (inr p) (inl q) = absurd (q.0 p.0 p.1)
refused_same room (s ∷ ss) f g (inr p) (inr q) =
    first_same q.0 room ss f g (subst (λ k. FirstRefused k room ss f) (heads_same s.bytes p.0 q.0 p.1 q.1) p.2) q.2

-- a text has one reading: one answer, and one list of rows
pub reading_same : (text : List ℕ) (old new new' : List GateRow) (r r' : Result Circuit Fault) → Reading text old new r → Reading text old new' r' → (r ≡ r') × (new ≡ new')
reading_same text old new new' (Ok c) (Ok d) p q =
    let same = circuit_same (room old) (statements_of text) c.qubits d.qubits p.0 q.0 p.1 q.1 in
    let count = p.2 ∙ ap length same.1 ∙ sym q.2 in
    ((λ i. Ok (record { qubits = same.0 i; gates = count i })), p.3 ∙ ap (λ gs. filled (map row_of_gate gs) old) same.1 ∙ sym q.3)
reading_same text old new new' (Ok c) (Err g) p q = absurd (circuit_or_refused (room old) (statements_of text) c.qubits p.0 g p.1 q.0)
reading_same text old new new' (Err f) (Ok d) p q = absurd (circuit_or_refused (room old) (statements_of text) d.qubits q.0 f q.1 p.0)
reading_same text old new new' (Err f) (Err g) p q = (ap Err (refused_same (room old) (statements_of text) f g p.0 q.0), p.1 ∙ sym q.1)
