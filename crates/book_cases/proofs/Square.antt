-- The cases on the square chip hold.
use Rattle.std.proofs.Common.{◌≡◌, ℕ, zero, suc, ◌<◌, true, false, get_or, None, sym, refl, ap, inl, inr, arith, lit<, lit≤}
use Rattle.std.proofs.lemmas.Bool.{true≢false}
use Rattle.rows.specs.declared.kind.Kind.{Kind}
use Rattle.rows.specs.declared.refusal.Refusal.{Refusal}
use Rattle.rows.specs.Numbers.{rank}
use Rattle.rows.specs.Steps.{one, two, first_of, second_of, shares, gate_of, step_row}
use Rattle.rows.specs.Refusals.{Accepted, Turned}
use Rattle.chip.proofs.Worked.{worked_chips}
use Rattle.sheet.specs.Sheets.{Log, unlaid, fresh, Open, NoneOpen, Front, Next, gate_number}
use Rattle.sheet.specs.Refusals.{Laid, row_number, bad_qubits, bad_length, bad_place, bad_row, too_many, LayFits, already, of_chip, bad_places, bad_gate, narrow, unknown_kind, uncoupled, busy, late, not_next, ClearFits, still_open}
use Rattle.sheet.specs.Runs.{Kept, AllKept}
use Rattle.theory.proofs.Rows.{none_some}
use Rattle.theory.proofs.Clearing.{clears_alone}
use Rattle.book_cases.specs.Square.{given, plan, chained, bare, after_t, routed, routed_rows, at_end, SquareCases, RoutedAlike}
use Rattle.book_cases.proofs.Offers.{kept_by, turned_by, clear_accepted}

-- LAYING

-- each qubit begins on the wire of its number
own_place : (q : ℕ) → q < 4 → get_or given.places q 0 ≡ q
own_place zero h = refl
own_place (suc zero) h = refl
own_place (suc (suc zero)) h = refl
own_place (suc (suc (suc zero))) h = refl
own_place (suc (suc (suc (suc q)))) h = absurd (omega arith)

decodes : (i : ℕ) → i < 2 → ¬ (gate_of 4 (row_number given.rows i) ≡ None)
decodes zero h e = none_some (sym e)
decodes (suc zero) h e = none_some (sym e)
decodes (suc (suc i)) h e = omega arith

not_laid : ¬ Laid unlaid
not_laid l = elim l [ ]

lay_accepted : Accepted (LayFits 4 (λ κ. true) unlaid given)
lay_accepted _ _ (already l) = not_laid l
lay_accepted r q (of_chip f) = worked_chips.square r q f
lay_accepted _ _ (bad_places (bad_qubits h)) = h (record { some_qubit = lit≤ tt; not_many = lit≤ tt })
lay_accepted _ _ (bad_places (bad_length c h)) = h refl
lay_accepted _ q (bad_places (bad_place c e h (inl b))) = let x = own_place q h in omega arith
lay_accepted _ q (bad_places (bad_place c e h (inr (r, k, b)))) = let x = own_place q h in let y = own_place r (omega arith) in omega arith
lay_accepted _ i (bad_gate (bad_row h e)) = decodes i h e
lay_accepted _ _ (bad_gate (too_many h)) = omega arith
lay_accepted _ _ (narrow h) = omega arith
lay_accepted _ _ (unknown_kind u) = true≢false u.unknown

-- THE FRONT

-- no gate of the front is t on wire 1
no_other_t : (i : ℕ) → ¬ Next plan (fresh plan) (one Kind.T 0 1) i
no_other_t zero n = let e = ap first_of n.same in omega arith
no_other_t (suc zero) n = let e = ap second_of n.same in omega arith
no_other_t (suc (suc i)) n = let h = n.front.listed in omega arith

-- h is open, and shares q0 with the cnot
no_cnot_yet : (i : ℕ) → ¬ Next chained (fresh chained) (two Kind.Cnot 0 0 1) i
no_cnot_yet zero n = let e = ap second_of n.same in omega arith
no_cnot_yet (suc zero) n = true≢false (n.front.earliest 0 (lit< tt) refl)
no_cnot_yet (suc (suc i)) n = let h = n.front.listed in omega arith

-- t and cnot share no qubit, so each is of the front while it is open
apart : (i j : ℕ) → i < 2 → j < i → shares (gate_number plan j) (gate_number plan i) ≡ false
apart zero j h k = absurd (omega arith)
apart (suc zero) zero h k = refl
apart (suc zero) (suc j) h k = absurd (omega arith)
apart (suc (suc i)) j h k = absurd (omega arith)

in_front : (l : Log) (i : ℕ) → i < 2 → Open l i → Front plan l i
in_front l i h o = record { listed = h; is_open = o; earliest = λ j k _. apart i j h k }

-- STEPS AND CLEARING

t_kept : Kept plan (fresh plan) (step_row 7 2 0 0 0) after_t
t_kept = kept_by refl refl (lit< tt) (0, record { front = in_front _ 0 (lit< tt) refl; same = refl }, refl)

routed_kept : AllKept plan (fresh plan) routed_rows at_end
routed_kept = (
  after_t,
  t_kept,
  (_, kept_by refl refl (lit< tt) refl, (at_end, kept_by refl refl (lit< tt) (1, record { front = in_front _ 1 (lit< tt) refl; same = refl }, refl), refl)),
)

none_open : NoneOpen plan at_end
none_open zero h o = true≢false o
none_open (suc zero) h o = true≢false o
none_open (suc (suc i)) h o = true≢false o

cnot_open : Turned (ClearFits plan after_t) (record { refusal = Refusal.Open; place = 1 })
cnot_open = record { holds = still_open (lit< tt) refl; first = t_done; least = open_alone }
  where
    t_done : (q : ℕ) → q < 1 → ¬ ClearFits plan after_t Refusal.Open q
    t_done zero h (still_open l o) = true≢false o
    t_done (suc q) h f = omega arith

    open_alone : (r : Refusal) (q : ℕ) → rank r < 23 → ¬ ClearFits plan after_t r q
    open_alone _ q h (still_open l o) = omega arith

pub square_cases : SquareCases
square_cases = record {
  laid = lay_accepted;
  cnot_first = turned_by refl Refusal.Uncoupled (lit≤ tt) refl (uncoupled _ refl refl);
  other_t = turned_by refl Refusal.NotNext (lit≤ tt) refl (not_next _ refl (λ (i, n). no_other_t i n));
  t_kept = t_kept;
  swap_early = turned_by refl Refusal.Busy (lit≤ tt) refl (busy _ refl (lit< tt));
  swap_in_time = kept_by refl refl (lit< tt) refl;
  swap_last = kept_by refl refl (lit< tt) refl;
  swap_late = turned_by refl Refusal.Late (lit≤ tt) refl (late _ refl (lit< tt));
  swap_first = kept_by refl refl (lit< tt) refl;
  t_after_swap = kept_by refl refl (lit< tt) (0, record { front = in_front _ 0 (lit< tt) refl; same = refl }, refl);
  cnot_open = cnot_open;
  routed_kept = routed_kept;
  none_open = none_open;
  cleared = clear_accepted plan at_end none_open;
  counted = refl;
  bare_cleared = clear_accepted bare (fresh bare) (λ i h o. omega arith);
  bare_counted = refl;
  h_not_passed = turned_by refl Refusal.NotNext (lit≤ tt) refl (not_next _ refl (λ (i, n). no_cnot_yet i n));
}

-- the routed steps keep shape, coupling and clock and clear the plan, so no machine can tell
pub routed_alike : RoutedAlike
routed_alike = (clears_alone plan (record { wide = 4; knows = λ κ. true; layout = given; accepted = lay_accepted; given = refl }) routed_rows routed
    (refl, refl, lit≤ tt, lit≤ tt, (refl, refl, lit≤ tt, lit≤ tt, (refl, refl, lit≤ tt, lit≤ tt, tt))) (lit≤ tt)).0 (at_end, routed_kept, none_open)
