-- What a whole text says: its lines, its statements, its circuit, and where it is refused.
use Rattle.std.specs.Prelude.{◌≡◌, ℕ, ◌+◌, ◌-◌, min, Bool, true, cond, ◌⊎◌, List, [], ◌∷◌, ◌++◌, map, length, drop, Ok, Err, Result, ◌==◌}
use Rattle.rows.specs.declared.refusal.Refusal.{Refusal}
use Rattle.rows.specs.declared.refusal.Fault.{Fault}
use Rattle.rows.specs.declared.row.Gate.{Gate as GateRow}
use Rattle.rows.specs.Steps.{Gate, row_of_gate}
use Rattle.rows.specs.Refusals.{Accepted, Turned}
use Rattle.lines.specs.Grammar.{Heads, Writes, LineFits}
use Rattle.text.specs.declared.circuit.Circuit.{Circuit}

-- a byte before the first of some lines
abbrev pub onto : ℕ → List (List ℕ) → List (List ℕ)
onto b [] = (b ∷ []) ∷ []
onto b (l ∷ ls) = (b ∷ l) ∷ ls

-- the lines of a text: each ends in byte 10, which the last may lack
abbrev pub lines : List ℕ → List (List ℕ)
lines [] = []
lines (b ∷ bs) = cond (b == 10) ([] ∷ lines bs) (onto b (lines bs))

-- a line that is skipped: empty, or a comment, which begins with #
abbrev pub skipped : List ℕ → Bool
skipped [] = true
skipped (b ∷ bs) = b == 35

-- a line that is not skipped, with its number in the text
pub record Statement : Type 0 where
  pub number : ℕ
  pub bytes : List ℕ

-- the statements among lines that are numbered from `at` on
abbrev pub statements : ℕ → List (List ℕ) → List Statement
statements at [] = []
statements at (l ∷ ls) = cond (skipped l) (statements (at + 1) ls) (record { number = at; bytes = l } ∷ statements (at + 1) ls)

-- the statements of a text; its lines count from 1
abbrev pub statements_of : List ℕ → List Statement
statements_of text = statements 1 (lines text)

-- the condition under which a statement is refused where a gate should stand
abbrev pub StatementFits : ℕ → ℕ → Statement → Refusal → ℕ → Type 0
StatementFits n left s = LineFits n left s.bytes s.number

-- the statements write these gates of a circuit of n qubits, one each, none refused, with rows left for so many
abbrev pub Gates : ℕ → ℕ → List Statement → List Gate → Type 0
Gates n left [] gs = gs ≡ []
Gates n left (s ∷ ss) [] = ⊥
Gates n left (s ∷ ss) (g ∷ gs) = Accepted (StatementFits n left s) × Writes s.bytes g × Gates n (left - 1) ss gs

-- the first of the statements that is refused is refused so
abbrev pub FirstRefused : ℕ → ℕ → List Statement → Fault → Type 0
FirstRefused n left [] f = ⊥
FirstRefused n left (s ∷ ss) f = Turned (StatementFits n left s) f ⊎ (Accepted (StatementFits n left s) × FirstRefused n (left - 1) ss f)

-- the first statement gives the number of qubits, and the others are the gates; there are rows for so many
abbrev pub IsCircuit : ℕ → List Statement → ℕ → List Gate → Type 0
IsCircuit room [] n gs = ⊥
IsCircuit room (s ∷ ss) n gs = Heads s.bytes n × Gates n room ss gs

-- no statement, a first one that gives no number of qubits, or a later one that is refused
abbrev pub IsRefused : ℕ → List Statement → Fault → Type 0
IsRefused room [] f = f ≡ record { refusal = Refusal.NoCircuit; place = 0 }
IsRefused room (s ∷ ss) f =
    (((n : ℕ) → ¬ Heads s.bytes n) × (f ≡ record { refusal = Refusal.NoCircuit; place = s.number }))
    ⊎ ((n : ℕ) × Heads s.bytes n × FirstRefused n room ss f)

-- a circuit holds at most 1,024 gates, and at most as many as there are rows
abbrev pub room : List GateRow → ℕ
room rows = min 1024 (length rows)

-- new rows from the front, and the others as they were
abbrev pub filled : List GateRow → List GateRow → List GateRow
filled made old = made ++ drop (length made) old

-- text, read into rows that held `old` and now hold `new`, gives this answer
abbrev pub Reading : List ℕ → List GateRow → List GateRow → Result Circuit Fault → Type 0
Reading text old new (Ok c) =
    (gs : List Gate) × IsCircuit (room old) (statements_of text) c.qubits gs × (c.gates ≡ length gs) × (new ≡ filled (map row_of_gate gs) old)
Reading text old new (Err f) = IsRefused (room old) (statements_of text) f × (new ≡ old)

-- no other answer, and no other rows, fit the text
abbrev pub OnlyReading : List ℕ → List GateRow → List GateRow → Result Circuit Fault → Type 0
OnlyReading text old new r = (rows : List GateRow) (s : Result Circuit Fault) → Reading text old rows s → (s ≡ r) × (rows ≡ new)
