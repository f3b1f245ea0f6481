-- What is printed of a circuit's text.
use Rattle.std.specs.Prelude.{◌≡◌, ℕ, zero, suc, ◌<◌, ◌≤◌, List, [], ◌∷◌, ◌++◌, length, codes, decimal}
use Rattle.std.specs.List.{flat_map}
use Rattle.rows.specs.declared.kind.Kind.{Kind}
use Rattle.rows.specs.declared.refusal.Fault.{Fault}
use Rattle.rows.specs.Kinds.{name}
use Rattle.rows.specs.Printed.{refusal_line}
use Rattle.rows.specs.Steps.{Gate}
use Rattle.text.specs.Reading.{statements_of, IsCircuit, IsRefused}
use Rattle.chains.specs.Chained.{Deep, Source, Counts}
use Rattle.report.specs.Features.{of_kind, on_two, on_qubit, counted}

-- a line of a word and a number
abbrev pub entry : List ℕ → ℕ → List ℕ
entry word n = word ++ (codes " " ++ (decimal n ++ codes "\n"))

-- the kinds in the order of their codes
abbrev pub kinds : List Kind
kinds = Kind.X ∷ Kind.Y ∷ Kind.Z ∷ Kind.H ∷ Kind.S ∷ Kind.Sdag ∷ Kind.T ∷ Kind.Tdag ∷ Kind.Cnot ∷ Kind.Cz ∷ Kind.Crk ∷ []

-- for a kind, how many gates are of it: `h 3`
abbrev pub kind_line : List Gate → Kind → List ℕ
kind_line gs κ = entry (name κ) (counted (of_kind κ) gs)

-- for a qubit, how many gates it takes, and how many qubits its result can depend on: `q0 4 3`
abbrev pub qubit_line : List Gate → ℕ → ℕ → List ℕ
qubit_line gs q sources =
    codes "q" ++ (decimal q ++ (codes " " ++ (decimal (counted (on_qubit q) gs) ++ (codes " " ++ (decimal sources ++ codes "\n")))))

-- the lines of the qubits below m, in a circuit of n qubits
abbrev pub QubitLines : ℕ → List Gate → ℕ → List ℕ → Type 0
QubitLines n gs zero out = out ≡ []
QubitLines n gs (suc q) out =
    (before : List ℕ) × (sources : ℕ) × QubitLines n gs q before × Counts (Source n gs q) n sources × (out ≡ before ++ qubit_line gs q sources)

-- the counts of a circuit of n qubits that is d deep
abbrev pub counts_report : ℕ → List Gate → ℕ → List ℕ
counts_report n gs d =
    entry (codes "qubits") n
    ++ (entry (codes "gates") (length gs)
    ++ (flat_map (kind_line gs) kinds
    ++ (entry (codes "two-qubit") (counted on_two gs)
    ++ entry (codes "depth") d)))

-- the report is that of a circuit of n qubits with these gates
abbrev pub Shows : ℕ → List Gate → List ℕ → Type 0
Shows n gs out = (d : ℕ) × (lines : List ℕ) × Deep n gs d × QubitLines n gs n lines × (out ≡ counts_report n gs d ++ lines)

-- what is printed of a text, read into 1,024 rows
pub data Reports (text : List ℕ) : List ℕ → Type 0 where
  too_long : 65536 < length text → Reports text (codes "too long\n")
  circuit : length text ≤ 65536 → (n : ℕ) (gs : List Gate) (out : List ℕ) → IsCircuit 1024 (statements_of text) n gs → Shows n gs out → Reports text out
  refused : length text ≤ 65536 → (f : Fault) → IsRefused 1024 (statements_of text) f → Reports text (refusal_line f)
