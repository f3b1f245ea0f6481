-- The order rule, by the places and the table of done gates.
use Rattle.std.proofs.Common.{◌≡◌, ℕ, ◌<◌, ◌≤◌, Bool, true, false, List, length, get_or, take, sym, refl, ap, ◌∙◌, subst, arith}
use Rattle.std.proofs.lemmas.List.{get_or-take, get_or_default}
use Rattle.std.proofs.lemmas.Bool.Decides.{nat_tests}
use Rattle.rows.specs.declared.kind.Kind.{Kind}
use Rattle.rows.specs.declared.place.Logical.{Logical}
use Rattle.rows.specs.declared.placed.Placed.{Placed}
use Rattle.rows.specs.Steps.{Gate, one, two, Step, gate, swap, fits, shares, first_of, second_of, gate_at}
use Rattle.sheet.specs.Sheets.{Plan, Log as SheetLog, at, Next, Ordered}
use Rattle.sheet.specs.Runs.{GoodPlaces, GoodPlan}
use Rattle.plan.specs.Circuits.{NextOf}
use Rattle.book.specs.Books.{Brings, BringsNone}

below_first : (n : ℕ) (g : Gate) → fits n g ≡ true → first_of g < n
below_first n (one κ k a) f = grind (arith, nat_tests)
below_first n (two κ k a b) f = grind (arith, nat_tests)

below_second : (n : ℕ) (g : Gate) → fits n g ≡ true → second_of g < n
below_second n (one κ k a) f = grind (arith, nat_tests)
below_second n (two κ k a b) f = grind (arith, nat_tests)

-- gates at other qubits are at other wires
module _ (N n : ℕ) (places : List ℕ) (good : GoodPlaces N n places) where
  same_qubit : (a c : ℕ) → a < n → c < n → get_or places a 0 ≡ get_or places c 0 → a ≡ c
  same_qubit a c h k e = good.one_to_one a c h k e

  pub at_same : (g h : Gate) → first_of g < n → second_of g < n → first_of h < n → second_of h < n → at places g ≡ at places h → g ≡ h
  at_same (one κ k a) (one κ' k' c) f s f' s' e =
      let q : a ≡ c = same_qubit a c f f' (cc) in let r : κ ≡ κ' = cc in let w : k ≡ k' = cc in cc
  at_same (one κ k a) (two κ' k' c d) f s f' s' e = let z : ◌≡◌ {A = ℕ} 0 1 = cc in absurd (omega arith)
  at_same (two κ k a b) (one κ' k' c) f s f' s' e = let z : ◌≡◌ {A = ℕ} 0 1 = cc in absurd (omega arith)
  at_same (two κ k a b) (two κ' k' c d) f s f' s' e =
      let q : a ≡ c = same_qubit a c f f' (cc) in let p : b ≡ d = same_qubit b d s s' (cc) in let r : κ ≡ κ' = cc in let w : k ≡ k' = cc in cc

module _ (p : Plan) (l : SheetLog) (good : GoodPlan p) (placed : GoodPlaces p.chart.wires (length p.first) l.places)
    (done : List Bool) (same_done : l.done ≡ take (length p.gates) done) (long : length p.gates ≤ length done) where
  -- a flag of the sheet is the table's
  pub flag : (i : ℕ) → i < length p.gates → get_or l.done i true ≡ get_or done i false
  flag i h = ap (λ ds. get_or ds i true) same_done ∙ get_or-take (length p.gates) done i true h ∙ get_or_default done i true false (omega arith)

  pub next_in : (g : Gate) (i : ℕ) → NextOf p.gates done g i → Next p l (at l.places g) i
  next_in g i x = record {
    front = record {
      listed = x.listed;
      is_open = flag i x.listed ∙ x.undone;
      earliest = λ j h o. ap (shares (get_or p.gates j (one Kind.X 0 0))) x.same ∙ x.before j h (sym (flag j (omega (arith, x.listed))) ∙ o);
    };
    same = ap (at l.places) x.same;
  }

  pub next_out : (g : Gate) (i : ℕ) → first_of g < length p.first → second_of g < length p.first → Next p l (at l.places g) i → NextOf p.gates done g i
  next_out g i f s x =
      let h = x.front.listed in
      let e = get_or p.gates i (one Kind.X 0 0) in
      let n = length p.first in
      let fit = (good.gates i h).fitting in
      let same = at_same p.chart.wires n l.places placed e g (below_first n e fit) (below_second n e fit) f s x.same in
      record {
        listed = h;
        undone = sym (flag i h) ∙ x.front.is_open;
        same = same;
        before = λ j k u. ap (shares (get_or p.gates j (one Kind.X 0 0))) (sym same) ∙ x.front.earliest j k (flag j (omega arith) ∙ u);
      }

  gate_same : (g h : Gate) → gate g ≡ gate h → g ≡ h
  gate_same g h e = cc

  swap_not_gate : (a b : ℕ) (g : Gate) → ¬ (swap a b ≡ gate g)
  swap_not_gate a b g e = let z : ◌≡◌ {A = ℕ} 0 1 = cc in omega arith

  -- a step that brings no gate, and one whose gate is not next
  pub none_ordered : (t : Step) → ((a b : ℕ) → ¬ (t ≡ swap a b)) → BringsNone l.places (length p.first) t → ¬ Ordered p l t
  none_ordered (gate g) other none (i, x) = none (get_or p.gates i (one Kind.X 0 0)) (good.gates i x.front.listed).fitting (ap gate (sym x.same))
  none_ordered (swap a b) other none o = other a b refl

  pub not_ordered : (t : Step) (g : Placed Logical) → Brings l.places (length p.first) t g → ((i : ℕ) → ¬ NextOf p.gates done (gate_at g) i) → ¬ Ordered p l t
  not_ordered (gate e) g b none (i, x) =
      none i (next_out (gate_at g) i b.first b.second (subst (λ (h : Gate). Next p l h i) (gate_same e (at l.places (gate_at g)) b.same) x))
  not_ordered (swap c d) g b none o = swap_not_gate c d _ b.same
