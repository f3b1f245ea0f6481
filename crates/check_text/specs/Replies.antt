-- Which reply is given for which input.
use Rattle.std.specs.Prelude.{◌≡◌, ℕ, zero, suc, true, List, [], ◌∷◌, ◌++◌, map, Ok, Err, string_bytes, Result}
use Rattle.std.specs.Prelude.{String}
use Rattle.std.specs.Global.{Global}
use Rattle.rows.specs.declared.place.Wire.{Wire}
use Rattle.rows.specs.declared.refusal.Fault.{Fault}
use Rattle.rows.specs.declared.refusal.Refusal.{Refusal}
use Rattle.rows.specs.Refusals.{Accepted, Turned}
use Rattle.rows.specs.Steps.{Gate, row_of_gate}
use Rattle.text.specs.Reading.{Statement, statements_of, IsCircuit, IsRefused}
use Rattle.sheet.specs.Sheets.{Plan, Log, Layout, unlaid, plan_of, fresh}
use Rattle.sheet.specs.Refusals.{LayFits}
use Rattle.plan.specs.Laying.{layout}
use Rattle.book.specs.declared.verdict.Counts.{Counts}
use Rattle.rows.specs.Printed.{refusal_line}
use Rattle.audit.specs.declared.trial.Trial.{Trial}
use Rattle.audit.specs.Audits.{Answered, Clears}
use Rattle.check_text.specs.declared.error.CheckError.{CheckError}
use Rattle.check_text.specs.Cutting.{Cut}
use Rattle.check_text.specs.Stepping.{AfterSteps, ReadAs, UnreadableAt}
use Rattle.check_text.specs.Answers.{answers_text}

-- the first places of n qubits: each on the wire of its number
abbrev pub in_order : ℕ → List Wire
in_order zero = []
in_order (suc q) = in_order q ++ record { 0 = q } ∷ []

-- the layout of a circuit of n qubits with these gates
abbrev pub laid_out : ℕ → List ℕ → ℕ → List Gate → Layout
laid_out wires records n gs = layout wires records n (in_order n) (map row_of_gate gs)

-- the conditions of its refusals, over a machine of 64 wires that knows every kind
abbrev pub LayoutFits : ℕ → List ℕ → ℕ → List Gate → Refusal → ℕ → Type 0
LayoutFits wires records n gs = LayFits 64 (λ κ. true) unlaid (laid_out wires records n gs)

-- the part of the input before the line `steps` is a circuit of n qubits with these gates
pub record CircuitOf (input : List ℕ) (n : ℕ) (gs : List Gate) : Type 0 where
  pub part : List ℕ
  pub cut : Cut input part
  pub circuit : IsCircuit 1024 (statements_of part) n gs

-- that part is refused so
pub record TextRefused (input : List ℕ) (f : Fault) : Type 0 where
  pub part : List ℕ
  pub cut : Cut input part
  pub refused : IsRefused 1024 (statements_of part) f

-- the input's circuit is laid, none of the conditions holds, and p is its plan
pub record Laid (wires : ℕ) (records input : List ℕ) (p : Plan) : Type 0 where
  pub n : ℕ
  pub gs : List Gate
  pub circuit : CircuitOf input n gs
  pub accepted : Accepted (LayoutFits wires records n gs)
  pub given : p ≡ plan_of (laid_out wires records n gs)

-- all lines after the line `steps` are steps; out has a line for the answer to each, from the sheet of p and l on, and the last line for the sheet after them
pub record AllJudged (p : Plan) (l : Log) (input out : List ℕ) : Type 0 where
  pub statements : List Statement
  pub found : AfterSteps (statements_of input) statements
  pub steps : List Trial
  pub read : ReadAs statements steps
  pub answers : List Trial
  pub after : Log
  pub answered : Answered p l steps answers after
  pub cleared : Result Counts Fault
  pub clears : Clears p after cleared
  pub shown : out ≡ answers_text answers cleared

-- the first line after the line `steps` that is no step is this one; lines count from 1 in the whole input
pub record Stopped (input : List ℕ) (line : ℕ) : Type 0 where
  pub statements : List Statement
  pub found : AfterSteps (statements_of input) statements
  pub unreadable : UnreadableAt statements line

-- what is printed for the input
pub data Prints (wires : ℕ) (records input : List ℕ) : List ℕ → Type 0 where
  text_refused : (f : Fault) → TextRefused input f → Prints wires records input (refusal_line f)
  layout_refused : (n : ℕ) (gs : List Gate) → CircuitOf input n gs → (f : Fault) → Turned (LayoutFits wires records n gs) f → Prints wires records input (refusal_line f)
  judged : (p : Plan) → Laid wires records input p → (out : List ℕ) → AllJudged p (fresh p) input out → Prints wires records input out

-- the reply to the input: what is printed, or the line that ends the program where the circuit is laid; nothing is said where memory runs out
abbrev pub Replies : ℕ → List ℕ → List ℕ → Result (String Global) CheckError → Type 0
Replies wires records input (Ok s) = Prints wires records input (string_bytes s)
Replies wires records input (Err (CheckError.Unreadable line)) = ((p : Plan) × Laid wires records input p) × Stopped input line
Replies wires records input (Err CheckError.OutOfMemory) = Unit {0}

-- the reply to the steps of the input, from the sheet of p and l on
abbrev pub Judged : Plan → Log → List ℕ → Result (String Global) CheckError → Type 0
Judged p l input (Ok s) = AllJudged p l input (string_bytes s)
Judged p l input (Err (CheckError.Unreadable line)) = Stopped input line
Judged p l input (Err CheckError.OutOfMemory) = Unit {0}
