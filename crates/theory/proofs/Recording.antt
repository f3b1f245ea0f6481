-- What the recorder's state has at each wire: the gates on it, in their order.
use Rattle.std.proofs.Common.{◌≡◌, ℕ, ◌≤◌, Bool, true, false, cond, eqb, List, [], ◌∷◌, ◌++◌, map, sym, refl, ap, ◌∙◌, ap₂, append_assoc, append-nil, arith}
use Rattle.std.proofs.lemmas.Bool.Decides.{nat_tests}
use Rattle.std.proofs.lemmas.Bool.{cond-true, cond-false, eqb-true}
use Rattle.rows.specs.Steps.{Gate, one, two, Step, gate, swap, pair_below, fits, has}
use Rattle.machine.specs.Machines.{run, exchanges}
use Rattle.machine.specs.Local.{Cells, wires, worked}
use Rattle.machine.proofs.Trading.{trade_trade}
use Rattle.machine.proofs.LocalLaws.{does, worked_width}
use Rattle.theory.specs.Recorder.{Entry, lone, as_first, as_second, Named, recording, recorder, blank}
use Rattle.theory.proofs.Order.{AllFit}

-- an exchange undoes itself, so equal states after the same exchanges were equal before
traded_twice : (a b : ℕ) (u : Cells Named) → recorder.traded a b (recorder.traded a b u) ≡ u
traded_twice a b u = go (pair_below (wires u) a b) refl
  where
    go : (t : Bool) → pair_below (wires u) a b ≡ t → recorder.traded a b (recorder.traded a b u) ≡ u
    go true e =
        ap (recorder.traded a b) (cond-true _ _ _ e) ∙ cond-true _ _ _ e ∙
        (λ i. record { width = u.width; cell = λ w. u.cell (trade_trade a b w i); minus = u.minus })
    go false e = ap (recorder.traded a b) (cond-false _ _ _ e) ∙ cond-false _ _ _ e

pub cancel : (ts : List Step) (u v : Cells Named) → run recorder (exchanges ts) u ≡ run recorder (exchanges ts) v → u ≡ v
cancel [] u v e = e
cancel (gate g ∷ ts) u v e = cancel ts u v e
cancel (swap a b ∷ ts) u v e =
    sym (traded_twice a b u) ∙ ap (recorder.traded a b) (cancel ts (recorder.traded a b u) (recorder.traded a b v) e) ∙ traded_twice a b v

-- the gates at a wire, in their order
abbrev pub on : ℕ → List Gate → List Gate
on w [] = []
on w (g ∷ gs) = cond (has g w) (g ∷ on w gs) (on w gs)

-- what the gate adds at the wire named w, and the gate again from that
abbrev entry : ℕ → Gate → Entry
entry w (one κ k a) = lone κ k
entry w (two κ k a b) = cond (eqb a w) (as_first κ k b) (as_second κ k a)

abbrev back : ℕ → Entry → Gate
back w (lone κ k) = one κ k w
back w (as_first κ k b) = two κ k w b
back w (as_second κ k a) = two κ k a w

back_entry : (w : ℕ) (g : Gate) → has g w ≡ true → back w (entry w g) ≡ g
back_entry w (one κ k a) h = ap (one κ k) (sym (eqb-true a w h))
back_entry w (two κ k a b) h = go (eqb a w) refl
  where
    go : (t : Bool) → eqb a w ≡ t → back w (cond t (as_first κ k b) (as_second κ k a)) ≡ two κ k a b
    go true e = ap (λ c. two κ k c b) (sym (eqb-true a w e))
    go false e = ap (two κ k a) (sym (eqb-true b w (rw e at h)))

back_on : (w : ℕ) (gs : List Gate) → map (back w) (map (entry w) (on w gs)) ≡ on w gs
back_on w [] = refl
back_on w (g ∷ gs) = go (back_on w gs) (has g w) refl
  where
    go : map (back w) (map (entry w) (on w gs)) ≡ on w gs → (t : Bool) → has g w ≡ t →
        map (back w) (map (entry w) (cond t (g ∷ on w gs) (on w gs))) ≡ cond t (g ∷ on w gs) (on w gs)
    go ih true e = ap₂ ◌∷◌ (back_entry w g e) ih
    go ih false e = ih

-- one gate at one wire
named_still : (g : Gate) (u : Cells Named) → ((w : ℕ) → (u.cell w).name ≡ w) → (w : ℕ) → ((worked recording g u).cell w).name ≡ w
named_still (one κ k a) u h w = grind (arith, nat_tests, h w, h a)
named_still (two κ k a b) u h w = grind (arith, nat_tests, h w, h a, h b)

adds : (n : ℕ) (g : Gate) (u : Cells Named) → fits n g ≡ true → ((w : ℕ) → (u.cell w).name ≡ w) → (w : ℕ) →
    ((worked recording g u).cell w).entries ≡ (u.cell w).entries ++ cond (has g w) (entry w g ∷ []) []
adds n (one κ k a) u f h w = grind (arith, nat_tests, append-nil)
adds n (two κ k a b) u f h w = grind (arith, nat_tests, append-nil, h a, h b)

named_entries : (n : ℕ) → n ≤ 64 → (gs : List Gate) (u : Cells Named) → AllFit n gs → u.width ≡ n → ((w : ℕ) → (u.cell w).name ≡ w) → (w : ℕ) →
    ((run recorder (map gate gs) u).cell w).entries ≡ (u.cell w).entries ++ map (entry w) (on w gs)
named_entries n few [] u fs e h w = sym (append-nil _)
named_entries n few (g ∷ gs) u fs e h w =
    let fit : wires u ≡ n = omega arith in
    ap (λ v. ((run recorder (map gate gs) v).cell w).entries) (does recording g u refl (ap (λ l. fits l g) fit ∙ fs.0)) ∙
    named_entries n few gs (worked recording g u) fs.1 (worked_width recording g u ∙ e) (named_still g u h) w ∙
    ap (λ l. l ++ map (entry w) (on w gs)) (adds n g u fs.0 h w) ∙
    go (has g w)
  where
    go : (t : Bool) → ((u.cell w).entries ++ cond t (entry w g ∷ []) []) ++ map (entry w) (on w gs) ≡ (u.cell w).entries ++ map (entry w) (cond t (g ∷ on w gs) (on w gs))
    go true = append_assoc (u.cell w).entries (entry w g ∷ []) (map (entry w) (on w gs))
    go false = ap (λ l. l ++ map (entry w) (on w gs)) (append-nil (u.cell w).entries)

-- equal records from the blank state: at each wire the same gates in the same order
pub same_on : (n : ℕ) → n ≤ 64 → (gs es : List Gate) → AllFit n gs → AllFit n es →
    run recorder (map gate gs) (blank n) ≡ run recorder (map gate es) (blank n) → (w : ℕ) → on w gs ≡ on w es
same_on n few gs es f f' e w =
    sym (back_on w gs) ∙
    ap (map (back w)) (sym (named_entries n few gs (blank n) f refl (λ v. refl) w) ∙ ap (λ u. (u.cell w).entries) e ∙ named_entries n few es (blank n) f' refl (λ v. refl) w) ∙
    back_on w es
