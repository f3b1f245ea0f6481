-- A circuit written out, with comments and empty lines anywhere between, is read back.
use Rattle.std.specs.Prelude.{◌≡◌, ℕ, ◌≤◌, true, ◌⊎◌, List, [], ◌∷◌, ◌++◌, map, length, Ok, Result}
use Rattle.std.specs.List.{flat_map, AllByRecursion}
use Rattle.rows.specs.declared.refusal.Fault.{Fault}
use Rattle.rows.specs.declared.row.Gate.{Gate as GateRow}
use Rattle.rows.specs.Steps.{Gate, row_of_gate, GoodGate}
use Rattle.lines.specs.Grammar.{heading, line_of}
use Rattle.text.specs.declared.circuit.Circuit.{Circuit}
use Rattle.text.specs.Reading.{skipped, room, filled, Reading, OnlyReading}

-- ls is ms with empty lines and comments put in anywhere
abbrev pub Spaced : List (List ℕ) → List (List ℕ) → Type 0
Spaced [] ms = ms ≡ []
Spaced (l ∷ ls) [] = (skipped l ≡ true) × Spaced ls []
Spaced (l ∷ ls) (m ∷ ms) = ((skipped l ≡ true) × Spaced ls (m ∷ ms)) ⊎ ((l ≡ m) × Spaced ls ms)

-- no byte of the line ends it
abbrev pub Unbroken : List ℕ → Type 0
Unbroken l = AllByRecursion (λ b. ¬ (b ≡ 10)) l

-- the lines one after the other, each ended by byte 10
abbrev pub ended : List (List ℕ) → List ℕ
ended ls = flat_map (λ l. l ++ 10 ∷ []) ls

-- the text is these lines; the last may lack its byte 10
pub record MadeOf (text : List ℕ) (ls : List (List ℕ)) : Type 0 where
  pub unbroken : AllByRecursion Unbroken ls
  pub is : (text ≡ ended ls) ⊎ (text ++ 10 ∷ [] ≡ ended ls)

-- a circuit that fits so many rows
pub record SmallCircuit (rows n : ℕ) (gs : List Gate) : Type 0 where
  pub some : 1 ≤ n
  pub few : n ≤ 64
  pub gates : AllByRecursion (GoodGate n) gs
  pub fit : length gs ≤ rows

-- whenever the text is a circuit written out, with comments and empty lines between, the answer is that circuit, and its rows stand first
abbrev pub ReadsBack : List ℕ → List GateRow → List GateRow → Result Circuit Fault → Type 0
ReadsBack text old new r =
    (n : ℕ) (gs : List Gate) (ls : List (List ℕ)) → SmallCircuit (room old) n gs →
    Spaced ls (heading n ∷ map line_of gs) → MadeOf text ls →
    (r ≡ Ok (record { qubits = n; gates = length gs })) × (new ≡ filled (map row_of_gate gs) old)

-- text, read into rows that held `old` and now hold `new`, gives this answer, and no other; a circuit written out is read back
pub record ReadAs (text : List ℕ) (old new : List GateRow) (r : Result Circuit Fault) : Type 0 where
  pub reads : Reading text old new r
  pub only : OnlyReading text old new r
  pub back : ReadsBack text old new r
