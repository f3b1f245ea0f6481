-- Qubits placed one after the other.
use Rattle.std.proofs.Common.{◌≡◌, ℕ, ◌+◌, ◌<◌, ◌≤◌, ◌≢◌, List, [], ◌∷◌, ◌++◌, map, length, get_or, take, sym, refl, ap, ◌∙◌, inl, inr, arith}
use lib.ListN.{length-map}
use Rattle.std.specs.List.{range_with_len}
use Rattle.std.proofs.lemmas.List.FromFn.{get_or-range_with_len}
use Rattle.std.proofs.lemmas.List.{get_or-take, get_or-map, length-take-le, ext_get_or, take_more, map-append, take-map, map_more, take_all}
use Rattle.std.proofs.lemmas.Bool.Decides.{nat_tests}
use Rattle.rows.specs.declared.place.Wire.{Wire}
use Rattle.rows.specs.declared.refusal.Refusal.{Refusal}
use Rattle.rows.specs.Steps.{trade}
use Rattle.sheet.specs.Sheets.{places_traded}
use Rattle.sheet.specs.Refusals.{QubitsCounted, BadPlace, BadPlaces, bad_qubits, bad_length, bad_place}
use Rattle.places.specs.declared.places.Places.{Places}
use Rattle.places.specs.Placing.{places_of, numbers, Taken, Lays, Misplaced}
use Rattle.places.proofs.Tables.{Both}

-- as many places as qubits
pub places_length : (s : Places) → length (places_of s) ≡ s.qubits
places_length s = length-take-le s.qubits s.at (omega (arith, s.enough, s.few, s.long))

-- every entry on the wire of its own number
counts : (n e : ℕ) → n ≤ 64 → e < n → get_or (range_with_len 0 64) e 0 ≡ e
counts n e le h = omega (arith, get_or-range_with_len 0 64 e 0 (omega arith))

pub both_counting : (n : ℕ) (at on : List ℕ) → n ≤ 64 → at ≡ range_with_len 0 64 → on ≡ range_with_len 0 64 → Both n at on
both_counting n at on le p q =
    let here : (e : ℕ) → e < n → get_or at e 0 ≡ e = λ e h. ap (λ xs. get_or xs e 0) p ∙ counts n e le h in
    let back : (e : ℕ) → e < n → get_or on e 0 ≡ e = λ e h. ap (λ xs. get_or xs e 0) q ∙ counts n e le h in
    record {
      inside = λ e h. omega (arith, here e h);
      back = λ e h. ap (λ w. get_or on w 0) (here e h) ∙ back e h;
      held = λ w h. omega (arith, back w h);
      there = λ w h. ap (λ e. get_or at e 0) (back w h) ∙ here w h;
    }

module _ (n q w : ℕ) (at on : List ℕ) (both : Both n at on) (la : n ≤ length at) (hw : w < n) (later : q ≤ get_or on w 0) where
  -- there is an entry left
  pub entry_left : q < n
  entry_left = omega (arith, both.held w hw)

  -- the entries before hold neither of the two wires
  apart : (i : ℕ) → i < q → trade (get_or at q 0) w (get_or at i 0) ≡ get_or at i 0
  apart i h =
      let hq = entry_left in
      let not_next : get_or at i 0 ≢ get_or at q 0 = λ e. let same : i ≡ q = sym (both.back i (omega arith)) ∙ ap (λ v. get_or on v 0) e ∙ both.back q hq in omega arith in
      let not_wire : get_or at i 0 ≢ w = λ e. let same : i ≡ get_or on w 0 = sym (both.back i (omega arith)) ∙ ap (λ v. get_or on v 0) e in omega arith in
      grind (arith, nat_tests)

  -- with entry q among the qubits, and its wire traded for w: the places before, and then w
  pub one_more : places_traded (get_or at q 0) w (take (q + 1) at) ≡ take q at ++ w ∷ []
  one_more =
      let hq = entry_left in
      let long : length (take q at) ≡ q = length-take-le q at (omega arith) in
      ap (map (trade (get_or at q 0) w)) (take_more at q 0 (omega arith))
      ∙ map-append (trade (get_or at q 0) w) (take q at) (get_or at q 0 ∷ [])
      ∙ (λ i. same long i ++ to_wire i ∷ [])
    where
      to_wire : trade (get_or at q 0) w (get_or at q 0) ≡ w
      to_wire = grind (arith, nat_tests)

      same : length (take q at) ≡ q → map (trade (get_or at q 0) w) (take q at) ≡ take q at
      same long = ext_get_or 0 (map (trade (get_or at q 0) w) (take q at)) (take q at) (length-map (take q at) _)
          (λ i h. let k : i < length (take q at) = (simp length-map at h) in let j : i < q = omega arith in
          get_or-map (trade (get_or at q 0) w) (take q at) i 0 0 k ∙ ap (trade (get_or at q 0) w) (get_or-take q at i 0 j) ∙ apart i j ∙ sym (get_or-take q at i 0 j))

-- the first q of these places are those of s
module _ (s : Places) (ps : List Wire) (q : ℕ) (counted_so : s.qubits ≡ q) (e : places_of s ≡ numbers (take q ps)) (hq : q < length ps) where
  before : (r : ℕ) → r < q → get_or (places_of s) r 0 ≡ get_or (numbers ps) r 0
  before r h = ap (λ xs. get_or xs r 0) (e ∙ sym (take-map (λ (w : Wire). w.0) q ps)) ∙ get_or-take q (numbers ps) r 0 h

  here : (d : Wire) → get_or (numbers ps) q 0 ≡ (get_or ps q d).0
  here d = get_or-map (λ (w : Wire). w.0) ps q d 0 hq

  pub bad_here : (d : Wire) → Taken s (get_or ps q d).0 → BadPlace s.wires (numbers ps) q
  bad_here d (inl l) = inl (omega (arith, here d))
  bad_here d (inr (r, l, same)) = let k : r < q = omega (arith, counted_so) in inr (r, k, sym (before r k) ∙ same ∙ sym (here d))

  pub good_here : (d : Wire) → ¬ Taken s (get_or ps q d).0 → ¬ BadPlace s.wires (numbers ps) q
  good_here d free (inl l) = free (inl (omega (arith, here d)))
  good_here d free (inr (r, k, same)) = free (inr (r, omega (arith, counted_so), before r k ∙ same ∙ here d))

  pub next_placed : (d : Wire) (t : Places) → places_of t ≡ places_of s ++ (get_or ps q d).0 ∷ [] → places_of t ≡ numbers (take (q + 1) ps)
  next_placed d t h = h ∙ ap (λ xs. xs ++ (get_or ps q d).0 ∷ []) e ∙ sym (map_more (λ (w : Wire). w.0) ps q d hq)

module _ (n : ℕ) (ps : List Wire) (counted : QubitsCounted (length ps)) where
  long : length (numbers ps) ≡ length ps
  long = length-map ps _

  -- the first bad place is the one to be answered
  pub misplaced_at : (q : ℕ) → q < length ps → BadPlace n (numbers ps) q → ((r : ℕ) → r < q → ¬ BadPlace n (numbers ps) r) →
      Misplaced n (length ps) (numbers ps) (record { refusal = Refusal.BadPlaces; place = q })
  misplaced_at q l bad good = record { refusal = refl; holds = bad_place counted long l bad; first = λ r h b. none b h }
    where
      none : {r : ℕ} → BadPlaces n (length ps) (numbers ps) r → r < q → ⊥
      none (bad_qubits c) h = c counted
      none (bad_length c d) h = d long
      none (bad_place {q = r} c d k b) h = good r h b

  pub all_placed : (s : Places) (q : ℕ) → q ≡ length ps → s.wires ≡ n → s.qubits ≡ q → places_of s ≡ numbers (take q ps) →
      ((r : ℕ) → r < q → ¬ BadPlace n (numbers ps) r) → Lays n (length ps) (numbers ps) s
  all_placed s q all w count e good = record {
    good = λ q b. none b;
    wires = w;
    counted = count ∙ all;
    same = e ∙ ap numbers (take_all q ps (omega arith));
  }
    where
      none : {r : ℕ} → BadPlaces n (length ps) (numbers ps) r → ⊥
      none (bad_qubits c) = c counted
      none (bad_length c d) = d long
      none (bad_place {q = r} c d k b) = good r (omega arith) b

-- a wrong number of qubits, and a list of another length
pub misplaced_first : (n qubits : ℕ) (ps : List ℕ) → ¬ QubitsCounted qubits → Misplaced n qubits ps (record { refusal = Refusal.BadPlaces; place = 0 })
misplaced_first n qubits ps h = record { refusal = refl; holds = bad_qubits h; first = λ q l b. omega arith }

pub misplaced_after : (n qubits : ℕ) (ps : List ℕ) → QubitsCounted qubits → ¬ (length ps ≡ qubits) → Misplaced n qubits ps (record { refusal = Refusal.BadPlaces; place = qubits })
misplaced_after n qubits ps c h = record { refusal = refl; holds = bad_length c h; first = λ q l b. none b l }
  where
    none : {q : ℕ} → BadPlaces n qubits ps q → q < qubits → ⊥
    none (bad_qubits d) l = d c
    none (bad_length d e) l = omega arith
    none (bad_place d e k b) l = h e
