-- Which refusal a layout gets.
use Rattle.std.proofs.Common.{◌≡◌, ℕ, ◌<◌, ◌≤◌, Bool, true, false, List, length, Some, sym, refl, ap, ◌∙◌, subst, arith}
use Rattle.std.proofs.lemmas.Bool.{both_ways}
use Rattle.rows.specs.declared.kind.Kind.{Kind}
use Rattle.rows.specs.declared.refusal.Refusal.{Refusal}
use Rattle.rows.specs.declared.refusal.Fault.{Fault}
use Rattle.rows.specs.Numbers.{rank}
use Rattle.rows.specs.Refusals.{Accepted, Turned}
use Rattle.rows.specs.Steps.{kind_of, gate_of, gates_of}
use Rattle.chip.specs.Charts.{ChipFits, ragged, bad_record, no_duration, parted}
use Rattle.places.specs.Placing.{Misplaced}
use Rattle.sheet.specs.Sheets.{unlaid, laid, Sheet, Layout}
use Rattle.sheet.specs.Refusals.{Laid, is_laid, BadPlaces, BadRows, bad_row, UnknownRow, row_number, LayFits, already, of_chip, bad_places, bad_gate, narrow, unknown_kind}
use Rattle.theory.proofs.Rows.{some_same, gates_decoded}
use Rattle.plan.specs.Circuits.{number, Miswritten}

abbrev IsLaid : Sheet → Type 0
IsLaid unlaid = ⊥
IsLaid (laid p l) = Unit {0}

laid_is : {s : Sheet} → Laid s → IsLaid s
laid_is is_laid = tt

not_laid : ¬ Laid unlaid
not_laid l = laid_is l

chip_ranks : {n : ℕ} {bs : List ℕ} {r : Refusal} {q : ℕ} → ChipFits n bs r q → rank r < 11
chip_ranks (ragged h) = omega arith
chip_ranks (bad_record l h) = omega arith
chip_ranks (no_duration l m e) = omega arith
chip_ranks (parted l h) = omega arith

module _ (wide : ℕ) (knows : Kind → Bool) (x : Layout) where
  abbrev Fits : Refusal → ℕ → Type 0
  Fits = LayFits wide knows unlaid x

  abbrev ChipGood : Type 0
  ChipGood = Accepted (ChipFits x.wires x.records)

  abbrev PlacesGood : Type 0
  PlacesGood = (q : ℕ) → ¬ BadPlaces x.wires x.qubits x.places q

  abbrev RowsGood : Type 0
  RowsGood = (i : ℕ) → ¬ BadRows x.qubits x.rows i

  abbrev KindsKnown : Type 0
  KindsKnown = (i : ℕ) → ¬ UnknownRow knows x.qubits x.rows i

  -- of the conditions below rank k none holds, if those are known not to hold
  none_below : (k : ℕ) → ChipGood → (12 ≤ k → PlacesGood) → (13 ≤ k → RowsGood) → (14 ≤ k → x.wires ≤ wide) → (15 ≤ k → KindsKnown) →
      {r : Refusal} {q : ℕ} → Fits r q → rank r < k → ⊥
  none_below k c p g w u (already l) h = not_laid l
  none_below k c p g w u (of_chip f) h = c _ _ f
  none_below k c p g w u (bad_places b) h = p (omega arith) _ b
  none_below k c p g w u (bad_gate b) h = g (omega arith) _ b
  none_below k c p g w u (narrow l) h = let v = w (omega arith) in omega arith
  none_below k c p g w u (unknown_kind b) h = u (omega arith) _ b

  -- the condition of each rank
  at_chip : {r : Refusal} {q : ℕ} → Fits r q → rank r < 11 → ChipFits x.wires x.records r q
  at_chip (already l) h = absurd (not_laid l)
  at_chip (of_chip f) h = f
  at_chip (bad_places b) h = absurd (omega arith)
  at_chip (bad_gate b) h = absurd (omega arith)
  at_chip (narrow l) h = absurd (omega arith)
  at_chip (unknown_kind b) h = absurd (omega arith)

  at_places : ChipGood → {r : Refusal} {q : ℕ} → Fits r q → rank r ≡ 11 → BadPlaces x.wires x.qubits x.places q
  at_places c (already l) h = absurd (not_laid l)
  at_places c (of_chip f) h = absurd (c _ _ f)
  at_places c (bad_places b) h = b
  at_places c (bad_gate b) h = absurd (omega arith)
  at_places c (narrow l) h = absurd (omega arith)
  at_places c (unknown_kind b) h = absurd (omega arith)

  at_rows : ChipGood → {r : Refusal} {q : ℕ} → Fits r q → rank r ≡ 12 → BadRows x.qubits x.rows q
  at_rows c (already l) h = absurd (not_laid l)
  at_rows c (of_chip f) h = absurd (c _ _ f)
  at_rows c (bad_places b) h = absurd (omega arith)
  at_rows c (bad_gate b) h = b
  at_rows c (narrow l) h = absurd (omega arith)
  at_rows c (unknown_kind b) h = absurd (omega arith)

  at_width : ChipGood → {r : Refusal} {q : ℕ} → Fits r q → rank r ≡ 13 → q ≡ wide
  at_width c (already l) h = absurd (not_laid l)
  at_width c (of_chip f) h = absurd (c _ _ f)
  at_width c (bad_places b) h = absurd (omega arith)
  at_width c (bad_gate b) h = absurd (omega arith)
  at_width c (narrow l) h = refl
  at_width c (unknown_kind b) h = absurd (omega arith)

  at_kinds : ChipGood → {r : Refusal} {q : ℕ} → Fits r q → rank r ≡ 14 → UnknownRow knows x.qubits x.rows q
  at_kinds c (already l) h = absurd (not_laid l)
  at_kinds c (of_chip f) h = absurd (c _ _ f)
  at_kinds c (bad_places b) h = absurd (omega arith)
  at_kinds c (bad_gate b) h = absurd (omega arith)
  at_kinds c (narrow l) h = absurd (omega arith)
  at_kinds c (unknown_kind b) h = b

  -- a refusal of the chip, of the places, of the rows, of the width, of a kind
  pub turned_chip : (f : Fault) → Turned (ChipFits x.wires x.records) f → Turned Fits f
  turned_chip f t =
      let low = chip_ranks t.holds in
      record {
        holds = of_chip t.holds;
        first = λ q h fit. t.first q h (at_chip fit low);
        least = λ r q h fit. t.least r q h (at_chip fit (omega arith));
      }

  pub turned_places : ChipGood → (f : Fault) → Misplaced x.wires x.qubits x.places f → Turned Fits f
  turned_places c f m =
      let e : rank f.refusal ≡ 11 = ap rank m.refusal in
      record {
        holds = subst (λ (r : Refusal). Fits r f.place) (sym m.refusal) (bad_places m.holds);
        first = λ q h fit. m.first q h (at_places c fit e);
        least = λ r q h fit. none_below 11 c (λ l. absurd (omega arith)) (λ l. absurd (omega arith)) (λ l. absurd (omega arith)) (λ l. absurd (omega arith)) fit (omega arith);
      }

  pub turned_rows : ChipGood → PlacesGood → (f : Fault) → Miswritten x.qubits x.rows f → Turned Fits f
  turned_rows c p f m =
      let e : rank f.refusal ≡ 12 = ap rank m.refusal in
      record {
        holds = subst (λ (r : Refusal). Fits r f.place) (sym m.refusal) (bad_gate m.holds);
        first = λ q h fit. m.first q h (at_rows c fit e);
        least = λ r q h fit. none_below 12 c (λ l. p) (λ l. absurd (omega arith)) (λ l. absurd (omega arith)) (λ l. absurd (omega arith)) fit (omega arith);
      }

  pub turned_width : ChipGood → PlacesGood → RowsGood → wide < x.wires → Turned Fits (record { refusal = Refusal.Narrow; place = wide })
  turned_width c p g l = record {
    holds = narrow l;
    first = λ q h fit. let e = at_width c fit refl in omega arith;
    least = λ r q h fit. none_below 13 c (λ l. p) (λ l. g) (λ l. absurd (omega arith)) (λ l. absurd (omega arith)) fit h;
  }

  pub turned_kind : ChipGood → PlacesGood → RowsGood → x.wires ≤ wide → (i : ℕ) → UnknownRow knows x.qubits x.rows i →
      ((j : ℕ) → j < i → ¬ UnknownRow knows x.qubits x.rows j) → Turned Fits (record { refusal = Refusal.UnknownKind; place = i })
  turned_kind c p g w i u before = record {
    holds = unknown_kind u;
    first = λ q h fit. before q h (at_kinds c fit refl);
    least = λ r q h fit. none_below 14 c (λ l. p) (λ l. g) (λ l. w) (λ l. absurd (omega arith)) fit h;
  }

  pub accepted_all : ChipGood → PlacesGood → RowsGood → x.wires ≤ wide → KindsKnown → Accepted Fits
  accepted_all c p g w u r q (already l) = not_laid l
  accepted_all c p g w u r q (of_chip f) = c _ _ f
  accepted_all c p g w u r q (bad_places b) = p _ b
  accepted_all c p g w u r q (bad_gate b) = g _ b
  accepted_all c p g w u r q (narrow l) = omega arith
  accepted_all c p g w u r q (unknown_kind b) = u _ b

  -- the gate of a row, by the list of gates
  module _ (g : RowsGood) where
    decodes : (i : ℕ) → i < length x.rows → gate_of x.qubits (row_number x.rows i) ≡ Some (number (gates_of x.qubits x.rows) i)
    decodes = (gates_decoded x.qubits x.rows (λ i l e. g i (bad_row l e))).1

    pub as_many : length (gates_of x.qubits x.rows) ≡ length x.rows
    as_many = (gates_decoded x.qubits x.rows (λ i l e. g i (bad_row l e))).0

    pub unknown_at : (i : ℕ) → i < length (gates_of x.qubits x.rows) → knows (kind_of (number (gates_of x.qubits x.rows) i)) ≡ false → UnknownRow knows x.qubits x.rows i
    unknown_at i l e = let k : i < length x.rows = omega (arith, as_many) in record { listed = k; written = number (gates_of x.qubits x.rows) i; decoded = decodes i k; unknown = e }

    pub known_at : (i : ℕ) → knows (kind_of (number (gates_of x.qubits x.rows) i)) ≡ true → ¬ UnknownRow knows x.qubits x.rows i
    known_at i e u = both_ways (knows (kind_of (number (gates_of x.qubits x.rows) i)))
        (ap (λ h. knows (kind_of h)) (some_same (sym (decodes i u.listed) ∙ u.decoded)) ∙ u.unknown) e
