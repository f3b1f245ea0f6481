-- The log after a kept step agrees with the sheet after it.
use Rattle.std.proofs.Common.{◌≡◌, ℕ, zero, suc, ◌+◌, max, true, List, [], ◌∷◌, ◌++◌, length, take, set, Some, sym, refl, ap, ◌∙◌, arith, length-append}
use Rattle.std.proofs.lemmas.List.{map-append}
use Rattle.rows.specs.declared.row.Step.{Step as StepRow}
use Rattle.rows.specs.Steps.{Gate, Step, gate, swap, Timed, first_wire, second_wire, step_of}
use Rattle.rows.specs.Refusals.{Accepted}
use Rattle.machine.specs.Machines.{exchanges}
use Rattle.chip.specs.Charts.{Chart}
use Rattle.places.specs.Placing.{places_of}
use Rattle.sheet.specs.Sheets.{Plan, Log as SheetLog, starting, untimed, end, last_end, Next, freed, places_traded, logged}
use Rattle.sheet.specs.Refusals.{StepFits}
use Rattle.sheet.specs.Runs.{Kept}
use Rattle.theory.proofs.Sheets.{reached_kept}
use Rattle.book.specs.declared.log.Log.{Log}
use Rattle.book.specs.Agreeing.{Agrees}

-- an entry written in a front of a table, and in the table
pub take_set_in : {A : Type 0} (n : ℕ) (xs : List A) (i : ℕ) (v : A) → set (take n xs) i v ≡ take n (set xs i v)
take_set_in zero xs i v = refl
take_set_in (suc n) [] i v = refl
take_set_in (suc n) (x ∷ xs) zero v = refl
take_set_in (suc n) (x ∷ xs) (suc i) v = ap (λ ys. x ∷ ys) (take_set_in n xs i v)

exchanges_append : (ks ts : List Step) → exchanges (ks ++ ts) ≡ exchanges ks ++ exchanges ts
exchanges_append [] ts = refl
exchanges_append (gate g ∷ ks) ts = exchanges_append ks ts
exchanges_append (swap a b ∷ ks) ts = ap (λ xs. swap a b ∷ xs) (exchanges_append ks ts)

exchanges_push : (ts : List Timed) (t : Timed) → length (exchanges (untimed (ts ++ t ∷ []))) ≡ length (exchanges (untimed ts)) + length (exchanges (t.step ∷ []))
exchanges_push ts t =
    ap (λ xs. length (exchanges xs)) (map-append (λ (u : Timed). u.step) ts (t ∷ []))
    ∙ ap length (exchanges_append (untimed ts) (t.step ∷ []))
    ∙ length-append (exchanges (untimed ts)) (exchanges (t.step ∷ []))

last_push : (c : Chart) (ts : List Timed) (t : Timed) → last_end c (ts ++ t ∷ []) ≡ max (last_end c ts) (end c t)
last_push c [] t = omega arith
last_push c (u ∷ ts) t = let h = last_push c ts t in omega arith

module _ (p : Plan) (s s' : Log) (l : SheetLog) (r : StepRow) (agrees : Agrees p s l) where
  abbrev Ends : Step → ℕ
  Ends t = end p.chart (starting t r.start)

  module _ (t : Step) (ends : ℕ) (e : ends ≡ Ends t)
      (free : s'.free ≡ set (set s.free (first_wire t) ends) (second_wire t) ends) (count : s'.kept ≡ s.kept + 1) (last : s'.last ≡ max s.last ends) where
    free_after : freed l.free t (Ends t) ≡ take p.chart.wires s'.free
    free_after =
        ap (λ (m : ℕ). freed l.free t m) (sym e)
        ∙ ap (λ xs. set (set xs (first_wire t) ends) (second_wire t) ends) agrees.free
        ∙ ap (λ xs. set xs (second_wire t) ends) (take_set_in p.chart.wires s.free (first_wire t) ends)
        ∙ take_set_in p.chart.wires (set s.free (first_wire t) ends) (second_wire t) ends
        ∙ ap (take p.chart.wires) (sym free)

    kept_after : length (l.steps ++ starting t r.start ∷ []) ≡ s'.kept
    kept_after = length-append l.steps (starting t r.start ∷ []) ∙ omega (arith, agrees.kept)

    last_after : last_end p.chart (l.steps ++ starting t r.start ∷ []) ≡ s'.last
    last_after = last_push p.chart l.steps (starting t r.start) ∙ omega (arith, agrees.last, e)

    exchanges_after : length (exchanges (untimed (l.steps ++ starting t r.start ∷ []))) ≡ s.exchanges + length (exchanges (t ∷ []))
    exchanges_after = exchanges_push l.steps (starting t r.start) ∙ ap (λ (n : ℕ). n + length (exchanges (t ∷ []))) agrees.exchanges

  -- a gate that is next
  module _ (accepted : Accepted (StepFits p l r)) (g : Gate) (decoded : step_of p.chart.wires r ≡ Some (gate g)) (i : ℕ) (next : Next p l g i)
      (ends : ℕ) (e : ends ≡ Ends (gate g)) (free : s'.free ≡ set (set s.free (first_wire (gate g)) ends) (second_wire (gate g)) ends)
      (count : s'.kept ≡ s.kept + 1) (last : s'.last ≡ max s.last ends)
      (places : s'.places ≡ s.places) (done : s'.done ≡ set s.done i true) (trades : s'.exchanges ≡ s.exchanges) where
    pub gate_log : SheetLog
    gate_log = logged p l (starting (gate g) r.start) l.places (set l.done i true)

    pub gate_kept : Kept p l r gate_log
    unfolding gate_log
    gate_kept = record { accepted = accepted; step = gate g; decoded = decoded; keeps = (i, next, refl) }

    pub gate_agrees : Agrees p s' gate_log
    unfolding gate_log
    gate_agrees = record {
      reached = reached_kept agrees.reached gate_kept;
      places = agrees.places ∙ ap places_of (sym places);
      done = ap (λ ds. set ds i true) agrees.done ∙ take_set_in (length p.gates) s.done i true ∙ ap (take (length p.gates)) (sym done);
      free = free_after (gate g) ends e free count last;
      kept = kept_after (gate g) ends e free count last;
      exchanges = exchanges_after (gate g) ends e free count last ∙ omega arith;
      last = last_after (gate g) ends e free count last;
    }

  -- an exchange
  module _ (accepted : Accepted (StepFits p l r)) (a b : ℕ) (decoded : step_of p.chart.wires r ≡ Some (swap a b))
      (ends : ℕ) (e : ends ≡ Ends (swap a b)) (free : s'.free ≡ set (set s.free a ends) b ends)
      (count : s'.kept ≡ s.kept + 1) (last : s'.last ≡ max s.last ends)
      (places : places_of s'.places ≡ places_traded a b (places_of s.places)) (done : s'.done ≡ s.done) (trades : s'.exchanges ≡ s.exchanges + 1) where
    pub swap_log : SheetLog
    swap_log = logged p l (starting (swap a b) r.start) (places_traded a b l.places) l.done

    pub swap_kept : Kept p l r swap_log
    unfolding swap_log
    swap_kept = record { accepted = accepted; step = swap a b; decoded = decoded; keeps = refl }

    pub swap_agrees : Agrees p s' swap_log
    unfolding swap_log
    swap_agrees = record {
      reached = reached_kept agrees.reached swap_kept;
      places = ap (places_traded a b) agrees.places ∙ sym places;
      done = agrees.done ∙ ap (take (length p.gates)) (sym done);
      free = free_after (swap a b) ends e free count last;
      kept = kept_after (swap a b) ends e free count last;
      exchanges = exchanges_after (swap a b) ends e free count last ∙ omega arith;
      last = last_after (swap a b) ends e free count last;
    }
