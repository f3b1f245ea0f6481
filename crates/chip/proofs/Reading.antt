-- One record more in the tables.
use Rattle.std.proofs.Common.{◌≡◌, ℕ, zero, suc, ◌+◌, ◌/◌, ◌<◌, ◌≤◌, Bool, true, false, cond, ◌&&◌, ◌||◌, eqb, ◌⊎◌, List, [], ◌∷◌, ◌++◌, length, get_or, take, set, replicate, Some, None, Option, is_some, sym, refl, ap, ◌∙◌, subst, inl, inr, ⊎_elim, arith}
use Rattle.std.proofs.lemmas.List.{get_or-set_same, get_or-set_other, take_more}
use Rattle.std.proofs.lemmas.Bool.{and_parts, cases_eq, cases_lt, cases_Bool, eq-eqb, ne_eqb, cond-true, cond-false}
use Rattle.std.proofs.lemmas.Bool.Decides.{nat_tests}
use Rattle.chip.specs.Charts.{Four, four, records, couples, joins_two, lasts, amount, joins, duration, record_number, GoodRecord}
use Rattle.std.specs.Simd.{first_chunks}
use Rattle.chip.specs.Tables.{flag_at, given, Read}
use Rattle.chip.specs.Entries.{four_in}
use Rattle.chip.proofs.Reaching.{blank_row, none_value}

-- rows of flags
or_none : (x : Bool) → (x || false) ≡ x
or_none true = refl
or_none false = refl

or_all : (x : Bool) → (x || true) ≡ true
or_all true = refl
or_all false = refl

or_assoc : (x y z : Bool) → ((x || y) || z) ≡ (x || (y || z))
or_assoc true y z = refl
or_assoc false y z = refl

row_with : (row : List Bool) (b : ℕ) → b < length row → (y : ℕ) → get_or (set row b true) y false ≡ (get_or row y false || eqb b y)
row_with row b l y = ⊎_elim
    (λ (e : y ≡ b).
    ap (λ (k : ℕ). get_or (set row b true) k false) e ∙ get_or-set_same row b true false l
    ∙ sym (ap (λ (t : Bool). get_or row y false || t) (eq-eqb b y (sym e)) ∙ or_all (get_or row y false)))
    (λ ne. get_or-set_other row b y true false ne ∙ sym (ap (λ (t : Bool). get_or row y false || t) (ne_eqb b y (λ e. ne (sym e))) ∙ or_none (get_or row y false)))
    (cases_eq y b)

table_with : (t : List (List Bool)) (a b : ℕ) → a < length t → (row : List Bool) → ((y : ℕ) → get_or row y false ≡ (get_or (get_or t a []) y false || eqb b y))
    → (x y : ℕ) → flag_at (set t a row) x y ≡ (flag_at t x y || (eqb a x && eqb b y))
table_with t a b l row h x y = ⊎_elim
    (λ (e : x ≡ a).
    ap (λ (k : ℕ). flag_at (set t a row) k y) e ∙ ap (λ (xs : List Bool). get_or xs y false) (get_or-set_same t a row [] l) ∙ h y
    ∙ sym (ap (λ (k : ℕ). flag_at t k y || (eqb a x && eqb b y)) e ∙ ap (λ (s : Bool). flag_at t a y || (s && eqb b y)) (eq-eqb a x (sym e))))
    (λ ne. ap (λ (xs : List Bool). get_or xs y false) (get_or-set_other t a x row [] ne)
    ∙ sym (ap (λ (s : Bool). flag_at t x y || (s && eqb b y)) (ne_eqb a x (λ e. ne (sym e))) ∙ or_none (flag_at t x y)))
    (cases_eq x a)

pub flag_set : (t : List (List Bool)) (a b : ℕ) → a < length t → b < length (get_or t a [])
    → (x y : ℕ) → flag_at (set t a (set (get_or t a []) b true)) x y ≡ (flag_at t x y || (eqb a x && eqb b y))
flag_set t a b l m x y = table_with t a b l (set (get_or t a []) b true) (row_with (get_or t a []) b m) x y

-- record i by its bytes
pub records_length : (bs : List ℕ) → length (records bs) ≡ length bs / 4
records_length [] = refl
records_length (a ∷ []) = refl
records_length (a ∷ b ∷ []) = refl
records_length (a ∷ b ∷ c ∷ []) = refl
records_length (a ∷ b ∷ c ∷ d ∷ bs) = let h = records_length bs in omega arith

-- record i is the chunk i of four bytes
pub record_chunk : (bs : List ℕ) (n i : ℕ) → n ≤ length bs / 4 → i < n → record_number bs i ≡ four_in (get_or (first_chunks 4 n bs) i [])
record_chunk bs zero i m l = let z : ⊥ = omega arith in absurd z
record_chunk [] (suc n) i m l = let z : ⊥ = omega arith in absurd z
record_chunk (a ∷ []) (suc n) i m l = let z : ⊥ = omega arith in absurd z
record_chunk (a ∷ b ∷ []) (suc n) i m l = let z : ⊥ = omega arith in absurd z
record_chunk (a ∷ b ∷ c ∷ []) (suc n) i m l = let z : ⊥ = omega arith in absurd z
record_chunk (a ∷ b ∷ c ∷ d ∷ bs) (suc n) zero m l = refl
record_chunk (a ∷ b ∷ c ∷ d ∷ bs) (suc n) (suc i) m l = record_chunk bs n i (omega arith) (omega arith)

-- one record more at the end of a list
pub joins_push : (n : ℕ) (rs : List Four) (r : Four) (a b : ℕ) → joins n (rs ++ r ∷ []) a b ≡ (joins n rs a b || joins_two n r a b)
joins_push n [] r a b = or_none (joins_two n r a b)
joins_push n (s ∷ rs) r a b = ap (λ (t : Bool). joins_two n s a b || t) (joins_push n rs r a b) ∙ sym (or_assoc (joins_two n s a b) (joins n rs a b) (joins_two n r a b))

-- a record that is no duration
pub duration_push_other : (rs : List Four) (r : Four) → lasts r ≡ false → (k : ℕ) → duration (rs ++ r ∷ []) k ≡ duration rs k
duration_push_other [] r e k = ap (λ (t : Bool). cond (t && eqb r.second k) (amount r) 0) e
duration_push_other (s ∷ rs) r e k = ap (λ (d : ℕ). cond (lasts s && eqb s.second k) (amount s) d) (duration_push_other rs r e k)

lasts_some : (r : Four) → lasts r ≡ true → 1 ≤ amount r
lasts_some r e = grind (arith, nat_tests)

pub lasts_kind : (r : Four) → lasts r ≡ true → (1 ≤ r.second) × (r.second ≤ 12)
lasts_kind r e = grind (arith, nat_tests)

-- the second number is no kind's
pub no_lasting : (n : ℕ) (r : Four) → r.form ≡ 2 → (r.second < 1) ⊎ (12 < r.second) → (couples n r ≡ false) × (lasts r ≡ false)
no_lasting n r e (inl l) = (grind (arith, nat_tests), grind (arith, nat_tests))
no_lasting n r e (inr l) = (grind (arith, nat_tests), grind (arith, nat_tests))

-- no number but those of kinds has a duration
pub duration_outside : (rs : List Four) (k : ℕ) → (k < 1) ⊎ (12 < k) → duration rs k ≡ 0
duration_outside [] k o = refl
duration_outside (r ∷ rs) k o = ⊎_elim
    (λ (t : (lasts r && eqb r.second k) ≡ true).
    let p = and_parts _ _ t in
    let q = lasts_kind r p.0 in
    let e : r.second ≡ k = grind (arith, nat_tests, p.1) in
    let z : ⊥ = omega (arith, q, o, e) in absurd z)
    (λ (t : (lasts r && eqb r.second k) ≡ false). cond-false {A = ℕ} _ (amount r) (duration rs k) t ∙ duration_outside rs k o)
    (cases_Bool (lasts r && eqb r.second k))

-- a number that is not 0
pub given_some : (d : ℕ) → 1 ≤ d → given d ≡ Some d
given_some zero l = let z : ⊥ = omega arith in absurd z
given_some (suc d) l = refl

pub given_none : (d : ℕ) → given d ≡ None → d ≡ 0
given_none zero e = refl
given_none (suc d) e = cc

pub given_value : (d k : ℕ) → given d ≡ Some k → k ≡ d
given_value zero k e = cc
given_value (suc d) k e = cc

-- the duration of a kind that has none yet
pub duration_push_new : (rs : List Four) (r : Four) → lasts r ≡ true → duration rs r.second ≡ 0
    → (k : ℕ) → duration (rs ++ r ∷ []) k ≡ cond (eqb r.second k) (amount r) (duration rs k)
duration_push_new [] r e z k = ap (λ (t : Bool). cond (t && eqb r.second k) (amount r) 0) e
duration_push_new (s ∷ rs) r e z k = ⊎_elim
    (λ (t : (lasts s && eqb s.second k) ≡ true).
    let p = and_parts _ _ t in
    let q : (r.second ≡ k → ⊥) = λ f.
    let u : (lasts s && eqb s.second r.second) ≡ true = subst (λ (x : ℕ). (lasts s && eqb s.second x) ≡ true) (sym f) t in
    let w : amount s ≡ 0 = sym (cond-true {A = ℕ} _ (amount s) (duration rs r.second) u) ∙ z in
    let x = lasts_some s p.0 in omega arith in
    cond-true {A = ℕ} _ (amount s) (duration (rs ++ r ∷ []) k) t
    ∙ sym (cond-false {A = ℕ} _ (amount r) (duration (s ∷ rs) k) (ne_eqb _ _ q) ∙ cond-true {A = ℕ} _ (amount s) (duration rs k) t))
    (λ (t : (lasts s && eqb s.second k) ≡ false).
    cond-false {A = ℕ} _ (amount s) (duration (rs ++ r ∷ []) k) t
    ∙ duration_push_new rs r e rest k
    ∙ ap (λ (d : ℕ). cond (eqb r.second k) (amount r) d) (sym (cond-false {A = ℕ} _ (amount s) (duration rs k) t)))
    (cases_Bool (lasts s && eqb s.second k))
  where
    rest : duration rs r.second ≡ 0
    rest = ⊎_elim
        (λ (t : (lasts s && eqb s.second r.second) ≡ true).
        let w : amount s ≡ 0 = sym (cond-true {A = ℕ} _ (amount s) (duration rs r.second) t) ∙ z in
        let x = lasts_some s (and_parts _ _ t).0 in
        let f : ⊥ = omega arith in absurd f)
        (λ (t : (lasts s && eqb s.second r.second) ≡ false). sym (cond-false {A = ℕ} _ (amount s) (duration rs r.second) t) ∙ z)
        (cases_Bool (lasts s && eqb s.second r.second))

-- a record is a coupling or a duration, not both
pub one_form : (n : ℕ) (r : Four) → couples n r ≡ true → lasts r ≡ false
one_form n r e = grind (arith, nat_tests)

no_join : (n : ℕ) (r : Four) (a b : ℕ) → couples n r ≡ false → joins_two n r a b ≡ false
no_join n r a b e = ap (λ (t : Bool). t && ((eqb r.second a && eqb r.third b) || (eqb r.second b && eqb r.third a))) e

-- below m + 1: below m, or m
at_most : (j m : ℕ) → j < m + 1 → (j < m) ⊎ (j ≡ m)
at_most j m h = ⊎_elim (λ (l : j < m). inl l) (λ (g : m ≤ j). inr (omega arith)) (cases_lt j m)

module _ (n : ℕ) (bs : List ℕ) (m : ℕ) (cs : List (List Bool)) (ds : List (Option ℕ)) (so_far : Read n bs m cs ds) (lt : m < length (records bs)) where
  abbrev here : Four
  here = record_number bs m

  next : take (m + 1) (records bs) ≡ take m (records bs) ++ here ∷ []
  next = take_more (records bs) m (four 0 0 0 0) lt

  good_next : GoodRecord n bs m → (i : ℕ) → i < m + 1 → GoodRecord n bs i
  good_next g i h = ⊎_elim
      (λ (l : i < m). so_far.good i l)
      (λ (e : i ≡ m). subst (λ (j : ℕ). GoodRecord n bs j) (sym e) g)
      (at_most i m h)

  -- a coupling
  pub read_coupling : couples n here ≡ true → (a b : ℕ) → here.second ≡ a → here.third ≡ b → (cs' : List (List Bool))
      → ((x y : ℕ) → flag_at cs' x y ≡ (flag_at cs x y || ((eqb a x && eqb b y) || (eqb a y && eqb b x))))
      → Read n bs (m + 1) cs' ds
  read_coupling c a b ea eb cs' h = record {
    good = good_next (inl c);
    coupled = λ x y.
        let way = (eqb here.second x && eqb here.third y) || (eqb here.second y && eqb here.third x) in
        h x y ∙ ap (λ (v : ℕ). flag_at cs x y || ((eqb v x && eqb b y) || (eqb v y && eqb b x))) (sym ea)
        ∙ ap (λ (v : ℕ). flag_at cs x y || ((eqb here.second x && eqb v y) || (eqb here.second y && eqb v x))) (sym eb)
        ∙ ap (λ (t : Bool). t || way) (so_far.coupled x y)
        ∙ sym (ap (λ (rs : List Four). joins n rs x y) next ∙ joins_push n (take m (records bs)) here x y
        ∙ ap (λ (t : Bool). joins n (take m (records bs)) x y || (t && way)) c);
    lasting = λ k.
        so_far.lasting k
        ∙ ap given (sym (ap (λ (rs : List Four). duration rs k) next ∙ duration_push_other (take m (records bs)) here (one_form n here c) k));
  }

  -- a duration
  module _ (l : lasts here ≡ true) where
    no_couple : couples n here ≡ false
    no_couple = grind (arith, nat_tests)

    read_own : here.second < length ds → get_or ds here.second None ≡ None → Read n bs (m + 1) cs (set ds here.second (Some (amount here)))
    read_own len free =
        let z : duration (take m (records bs)) here.second ≡ 0 = given_none _ (sym (so_far.lasting here.second) ∙ free) in
        record {
          good = good_next (inr (l, z));
          coupled = λ x y.
              so_far.coupled x y
              ∙ sym (ap (λ (rs : List Four). joins n rs x y) next ∙ joins_push n (take m (records bs)) here x y
              ∙ ap (λ (t : Bool). joins n (take m (records bs)) x y || t) (no_join n here x y no_couple) ∙ or_none (joins n (take m (records bs)) x y));
          lasting = λ k. written k ∙ ap given (sym (ap (λ (rs : List Four). duration rs k) next ∙ duration_push_new (take m (records bs)) here l z k));
        }
      where
        written : (k : ℕ) → get_or (set ds here.second (Some (amount here))) k None ≡ given (cond (eqb here.second k) (amount here) (duration (take m (records bs)) k))
        written k = ⊎_elim
            (λ (e : k ≡ here.second).
            ap (λ (j : ℕ). get_or (set ds here.second (Some (amount here))) j None) e ∙ get_or-set_same ds here.second (Some (amount here)) None len
            ∙ sym (ap given (cond-true {A = ℕ} _ (amount here) (duration (take m (records bs)) k) (eq-eqb _ _ (sym e))) ∙ given_some (amount here) (lasts_some here l)))
            (λ ne. get_or-set_other ds here.second k (Some (amount here)) None ne ∙ so_far.lasting k
            ∙ sym (ap given (cond-false {A = ℕ} _ (amount here) (duration (take m (records bs)) k) (ne_eqb _ _ (λ e. ne (sym e))))))
            (cases_eq k here.second)

    pub read_duration : (k d : ℕ) → here.second ≡ k → amount here ≡ d → length ds ≡ 13 → is_some (get_or ds k None) ≡ false → Read n bs (m + 1) cs (set ds k (Some d))
    read_duration k d ek ed len free =
        subst (λ (x : ℕ). Read n bs (m + 1) cs (set ds x (Some d))) ek
        (subst (λ (x : ℕ). Read n bs (m + 1) cs (set ds here.second (Some x))) ed
        (read_own (omega (arith, lasts_kind here l)) (ap (λ (x : ℕ). get_or ds x None) ek ∙ none_value (get_or ds k None) free)))

-- before the first record
pub blank_table : (n m a b : ℕ) → flag_at (replicate n (replicate m false)) a b ≡ false
blank_table zero m a b = refl
blank_table (suc n) m zero b = blank_row m b false
blank_table (suc n) m (suc a) b = blank_table n m a b
