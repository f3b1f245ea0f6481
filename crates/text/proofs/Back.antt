-- A circuit written out, with comments and empty lines between, is read back.
use Rattle.std.proofs.Common.{◌≡◌, ℕ, ◌+◌, ◌-◌, ◌<◌, ◌≤◌, Bool, true, false, cond, not, ◌&&◌, eqb, ltb, ◌⊎◌, List, [], ◌∷◌, ◌++◌, map, length, get_or, drop, Ok, Result, sym, refl, ap, ◌∙◌, subst, inl, inr, arith}
use Rattle.std.specs.List.{AllByRecursion}
use Rattle.std.proofs.lemmas.Bool.Decides.{nat_tests}
use Rattle.rows.specs.declared.refusal.Fault.{Fault}
use Rattle.rows.specs.declared.row.Gate.{Gate as GateRow}
use Rattle.rows.specs.declared.kind.Kind.{Kind}
use Rattle.rows.specs.Kinds.{double, name}
use Rattle.rows.specs.Steps.{Gate, one, two, kind_of, pair_below, row_of_gate, GoodGate}
use Rattle.lines.specs.Grammar.{heading, line_of, Writes, Within, Doubled}
use Rattle.lines.proofs.Judging.{is_accepted}
use Rattle.text.specs.declared.circuit.Circuit.{Circuit}
use Rattle.text.specs.Reading.{onto, lines, skipped, Statement, statements, statements_of, Gates, IsCircuit, room, filled, Reading, OnlyReading}
use Rattle.text.specs.Writing.{Spaced, ended, MadeOf, SmallCircuit, ReadsBack, ReadAs}
use Rattle.text.proofs.FirstLine.{lines_ended}
use Rattle.text.proofs.Unique.{reading_same}

-- a byte 10 at the end of a text ends its last line, or adds an empty one

abbrev SameOrEmpty : List (List ℕ) → List (List ℕ) → Type 0
SameOrEmpty ls ms = (ls ≡ ms) ⊎ (ls ≡ ms ++ [] ∷ [])

before_all : (b : ℕ) (ls ms : List (List ℕ)) → SameOrEmpty ls ms → SameOrEmpty (onto b ls) (onto b ms)
before_all b ls ms (inl e) = inl (ap (onto b) e)
before_all b ls [] (inr e) = inl (ap (onto b) e)
before_all b ls (m ∷ ms) (inr e) = inr (ap (onto b) e)

new_line : (ls ms : List (List ℕ)) → SameOrEmpty ls ms → SameOrEmpty ([] ∷ ls) ([] ∷ ms)
new_line ls ms (inl e) = inl (ap (λ k. [] ∷ k) e)
new_line ls ms (inr e) = inr (ap (λ k. [] ∷ k) e)

lines_closed : (text : List ℕ) → SameOrEmpty (lines (text ++ 10 ∷ [])) (lines text)
lines_closed [] = inr refl
lines_closed (b ∷ bs) = by (eqb b 10) (lines_closed bs)
  where
    by : (t : Bool) → SameOrEmpty (lines (bs ++ 10 ∷ [])) (lines bs) →
        SameOrEmpty (cond t ([] ∷ lines (bs ++ 10 ∷ [])) (onto b (lines (bs ++ 10 ∷ [])))) (cond t ([] ∷ lines bs) (onto b (lines bs)))
    by true h = new_line _ _ h
    by false h = before_all b _ _ h

statements_empty : (at : ℕ) (ls : List (List ℕ)) → statements at (ls ++ [] ∷ []) ≡ statements at ls
statements_empty at [] = refl
statements_empty at (l ∷ ls) = ap (λ ss. cond (skipped l) ss (record { number = at; bytes = l } ∷ ss)) (statements_empty (at + 1) ls)

statements_closed : (at : ℕ) (ls ms : List (List ℕ)) → SameOrEmpty ls ms → statements at ls ≡ statements at ms
statements_closed at ls ms (inl e) = ap (statements at) e
statements_closed at ls ms (inr e) = ap (statements at) e ∙ statements_empty at ms

statements_made : (text : List ℕ) (ls : List (List ℕ)) → MadeOf text ls → statements_of text ≡ statements 1 ls
statements_made text ls m = from m.is
  where
    from : (text ≡ ended ls) ⊎ (text ++ 10 ∷ [] ≡ ended ls) → statements_of text ≡ statements 1 ls
    from (inl e) = ap (λ t. statements 1 (lines t)) e ∙ ap (statements 1) (lines_ended ls m.unbroken)
    from (inr e) =
        sym (statements_closed 1 (lines (text ++ 10 ∷ [])) (lines text) (lines_closed text))
        ∙ ap (λ t. statements 1 (lines t)) e ∙ ap (statements 1) (lines_ended ls m.unbroken)

-- empty lines and comments between leave the statements as they are
statements_spaced : (at : ℕ) (ls ms : List (List ℕ)) → AllByRecursion (λ m. skipped m ≡ false) ms → Spaced ls ms → map (λ s. s.bytes) (statements at ls) ≡ ms
statements_spaced at [] ms h sp = sym sp
statements_spaced at (l ∷ ls) [] h sp =
    ap (λ b. map (λ s. s.bytes) (cond b (statements (at + 1) ls) (record { number = at; bytes = l } ∷ statements (at + 1) ls))) sp.0
    ∙ statements_spaced (at + 1) ls [] h sp.1
statements_spaced at (l ∷ ls) (m ∷ ms) h (inl sp) =
    ap (λ b. map (λ s. s.bytes) (cond b (statements (at + 1) ls) (record { number = at; bytes = l } ∷ statements (at + 1) ls))) sp.0
    ∙ statements_spaced (at + 1) ls (m ∷ ms) h sp.1
statements_spaced at (l ∷ ls) (m ∷ ms) h (inr sp) =
    ap (λ b. map (λ s. s.bytes) (cond b (statements (at + 1) ls) (record { number = at; bytes = l } ∷ statements (at + 1) ls))) (ap skipped sp.0 ∙ h.0)
    ∙ (λ i. sp.0 i ∷ statements_spaced (at + 1) ls ms h.1 sp.1 i)

name_unskipped : (κ : Kind) (rest : List ℕ) → skipped (name κ ++ rest) ≡ false
name_unskipped Kind.X rest = refl
name_unskipped Kind.Y rest = refl
name_unskipped Kind.Z rest = refl
name_unskipped Kind.H rest = refl
name_unskipped Kind.S rest = refl
name_unskipped Kind.Sdag rest = refl
name_unskipped Kind.T rest = refl
name_unskipped Kind.Tdag rest = refl
name_unskipped Kind.Cnot rest = refl
name_unskipped Kind.Cz rest = refl
name_unskipped Kind.Crk rest = refl

gates_unskipped : (gs : List Gate) → AllByRecursion (λ m. skipped m ≡ false) (map line_of gs)
gates_unskipped [] = tt
gates_unskipped (g ∷ gs) = (name_unskipped (kind_of g) _, gates_unskipped gs)

-- a gate of the circuit is written by its line, without fault

single_parts : (n a : ℕ) (d : Bool) → (not d && ltb a n) ≡ true → (d ≡ false) × (a < n)
single_parts n a true h = absurd (false_not_true h)
  where
    false_not_true : ¬ (false ≡ true)
    false_not_true e = let P : Bool → Type 0 = λ b. cond b ⊥ (Unit {0}) in subst P e tt
single_parts n a false h = (refl, below n a h)
  where
    below : (n a : ℕ) → ltb a n ≡ true → a < n
    below n a h = grind (arith, nat_tests)

pair_parts : (n a b : ℕ) → pair_below n a b ≡ true → (a < n) × (b < n) × (¬ (a ≡ b))
pair_parts n a b h = (first n a b h, second n a b h, apart n a b h)
  where
    first : (n a b : ℕ) → pair_below n a b ≡ true → a < n
    first n a b h = grind (arith, nat_tests)

    second : (n a b : ℕ) → pair_below n a b ≡ true → b < n
    second n a b h = grind (arith, nat_tests)

    apart : (n a b : ℕ) → pair_below n a b ≡ true → ¬ (a ≡ b)
    apart n a b h e = grind (arith, nat_tests)

double_parts : (n a b : ℕ) (d : Bool) → (d && pair_below n a b) ≡ true → (d ≡ true) × (pair_below n a b ≡ true)
double_parts n a b true h = (refl, h)
double_parts n a b false h = absurd (false_not_true h)
  where
    false_not_true : ¬ (false ≡ true)
    false_not_true e = let P : Bool → Type 0 = λ b. cond b ⊥ (Unit {0}) in subst P e tt

record Good (n : ℕ) (g : Gate) : Type 0 where
  writes : Writes (line_of g) g
  within : Within n g
  apart : ¬ Doubled g

good : (n : ℕ) (g : Gate) → n ≤ 64 → GoodGate n g → Good n g
good n (one κ k a) few h =
    let p = single_parts n a (double κ) h.fitting in
    record {
      writes = record { writable = record { places = sym p.0; k = h.k; first = omega (arith, p.1); second = omega (arith, p.1) }; is = refl };
      within = record { first = p.1; second = p.1 };
      apart = λ e. e;
    }
good n (two κ k a b) few h =
    let d = double_parts n a b (double κ) h.fitting in
    let p = pair_parts n a b d.1 in
    record {
      writes = record { writable = record { places = sym d.0; k = h.k; first = omega (arith, p.0); second = omega (arith, p.1) }; is = refl };
      within = record { first = p.0; second = p.1 };
      apart = p.2;
    }

gates_written : (n left : ℕ) (ss : List Statement) (gs : List Gate) → n ≤ 64 → AllByRecursion (GoodGate n) gs → length gs ≤ left →
    map (λ s. s.bytes) ss ≡ map line_of gs → Gates n left ss gs
gates_written n left [] [] few h fit e = refl
gates_written n left [] (g ∷ gs) few h fit e = absurd (omega (arith, ap length e))
gates_written n left (s ∷ ss) [] few h fit e = absurd (omega (arith, ap length e))
gates_written n left (s ∷ ss) (g ∷ gs) few h fit e =
    let line : s.bytes ≡ line_of g = ap (λ l. get_or l 0 []) e in
    let is = good n g few h.0 in
    let writes = subst (λ l. Writes l g) (sym line) is.writes in (
      is_accepted n left s.bytes s.number g writes is.within is.apart (omega arith),
      writes,
      gates_written n (left - 1) ss gs few h.1 (omega arith) (ap (drop 1) e),
    )

circuit_written : (rows : ℕ) (ss : List Statement) (n : ℕ) (gs : List Gate) → SmallCircuit rows n gs → map (λ s. s.bytes) ss ≡ heading n ∷ map line_of gs → IsCircuit rows ss n gs
circuit_written rows [] n gs c e = absurd (omega (arith, ap length e))
circuit_written rows (s ∷ ss) n gs c e =
    (record { some = c.some; few = c.few; is = ap (λ l. get_or l 0 []) e }, gates_written n rows ss gs c.few c.gates c.fit (ap (drop 1) e))

reads_back : (text : List ℕ) (old new : List GateRow) (r : Result Circuit Fault) → Reading text old new r → ReadsBack text old new r
reads_back text old new r h n gs ls c sp m =
    let lines_are = statements_spaced 1 ls (heading n ∷ map line_of gs) (refl, gates_unskipped gs) sp in
    let written = circuit_written (room old) (statements 1 ls) n gs c lines_are in
    reading_same text old new (filled (map row_of_gate gs) old) r (Ok (record { qubits = n; gates = length gs })) h
    (gs, subst (λ ss. IsCircuit (room old) ss n gs) (sym (statements_made text ls m)) written, refl, refl)

only_reading : (text : List ℕ) (old new : List GateRow) (r : Result Circuit Fault) → Reading text old new r → OnlyReading text old new r
only_reading text old new r h rows s k = reading_same text old rows new s r k h

pub read_as : (text : List ℕ) (old new : List GateRow) (r : Result Circuit Fault) → Reading text old new r → ReadAs text old new r
read_as text old new r h = record { reads = h; only = only_reading text old new r h; back = reads_back text old new r h }
