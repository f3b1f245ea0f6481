-- What a book that agrees with a sheet knows of it.
use Rattle.std.proofs.Common.{◌≡◌, ℕ, ◌<◌, ◌≤◌, max, false, List, [], length, get_or, take, replicate, sym, refl, ap, ◌∙◌, arith}
use Rattle.std.proofs.lemmas.List.{get_or-take, take-replicate}
use Rattle.std.proofs.lemmas.Bool.Decides.{nat_tests}
use Rattle.rows.specs.declared.place.Logical.{Logical}
use Rattle.rows.specs.declared.placed.Placed.{Placed}
use Rattle.rows.specs.Steps.{Gate, one, two, Step, gate, swap, GoodStep, fits, gate_at, first_wire, second_wire}
use Rattle.places.specs.Placing.{places_of}
use Rattle.places.proofs.Placing.{places_length}
use Rattle.sheet.specs.Sheets.{Plan, Log as SheetLog, fresh, larger_free, Next, Ordered, at}
use Rattle.sheet.specs.Runs.{LaidPlan, GoodPlaces, GoodPlan}
use Rattle.theory.proofs.Sheets.{laid_good, reached_places}
use Rattle.plan.specs.Circuits.{NextOf}
use Rattle.plan.specs.Laying.{plan_in}
use Rattle.plan.specs.declared.plan.Plan.{Plan as PlanValue}
use Rattle.book.specs.declared.log.Log.{Log}
use Rattle.book.specs.declared.book.Book.{Book}
use Rattle.book.specs.Agreeing.{Agrees}
use Rattle.book.specs.Books.{Holds, Brings, BringsNone}
use Rattle.book.proofs.Turns.{next_in, none_ordered, not_ordered}

-- wires of a good step are wires of the chip
pub first_below : (n : ℕ) (t : Step) → GoodStep n t → first_wire t < n
first_below n (gate (one κ k a)) g = let f = g.fitting in grind (arith, nat_tests)
first_below n (gate (two κ k a b)) g = let f = g.fitting in grind (arith, nat_tests)
first_below n (swap a b) g = grind (arith, nat_tests)

pub second_below : (n : ℕ) (t : Step) → GoodStep n t → second_wire t < n
second_below n (gate (one κ k a)) g = let f = g.fitting in grind (arith, nat_tests)
second_below n (gate (two κ k a b)) g = let f = g.fitting in grind (arith, nat_tests)
second_below n (swap a b) g = grind (arith, nat_tests)

module _ (b : Book) (l : SheetLog) (h : Holds b l) where
  abbrev p : Plan
  p = plan_in b.plan

  pub good : GoodPlan p
  good = laid_good p h.reached.plan

  pub placed : GoodPlaces p.chart.wires (length p.first) l.places
  placed = reached_places p l h.reached

  qubits : b.log.places.qubits ≡ length p.first
  qubits = b.qubits ∙ sym (places_length b.plan.first)

  pub long : length p.gates ≤ length b.log.done
  long = omega (arith, good.few_gates, b.log.flags)

  pub turn_none : (t : Step) → ((x y : ℕ) → ¬ (t ≡ swap x y)) → BringsNone (places_of b.log.places) b.log.places.qubits t → ¬ Ordered p l t
  turn_none t other none = none_ordered p l good placed b.log.done h.done long t other
      (λ g f e. none g (ap (λ (n : ℕ). fits n g) qubits ∙ f) (e ∙ ap (λ (ps : List ℕ). gate (at ps g)) h.places))

  brings : (t : Step) (g : Placed Logical) → Brings (places_of b.log.places) b.log.places.qubits t g → Brings l.places (length p.first) t g
  brings t g x = record {
    first = omega (arith, x.first, qubits);
    second = omega (arith, x.second, qubits);
    same = x.same ∙ ap (λ (ps : List ℕ). gate (at ps (gate_at g))) (sym h.places);
  }

  pub turn_not : (t : Step) (g : Placed Logical) → Brings (places_of b.log.places) b.log.places.qubits t g →
      ((i : ℕ) → ¬ NextOf p.gates b.log.done (gate_at g) i) → ¬ Ordered p l t
  turn_not t g x none = not_ordered p l good placed b.log.done h.done long t g (brings t g x) none

  pub turn_is : (t : Step) (g : Placed Logical) (i : ℕ) → Brings (places_of b.log.places) b.log.places.qubits t g →
      NextOf p.gates b.log.done (gate_at g) i → (e : Gate) × (t ≡ gate e) × Next p l e i
  turn_is t g i x n = (at l.places (gate_at g), (brings t g x).same, next_in p l good placed b.log.done h.done long (gate_at g) i n)

  -- the larger free cycle by the table
  pub free_larger : (t : Step) → GoodStep p.chart.wires t → (x y f : ℕ) → x ≡ first_wire t → y ≡ second_wire t → f ≡ max (get_or b.log.free x 0) (get_or b.log.free y 0) →
      larger_free l.free t ≡ f
  free_larger t g x y f ex ey e =
      ap (λ (fs : List ℕ). larger_free fs t) h.free
      ∙ (λ i. max (get_or-take p.chart.wires b.log.free (first_wire t) 0 (first_below _ t g) i) (get_or-take p.chart.wires b.log.free (second_wire t) 0 (second_below _ t g) i))
      ∙ (λ i. max (get_or b.log.free (sym ex i) 0) (get_or b.log.free (sym ey i) 0))
      ∙ sym e

-- the fresh log agrees with the fresh sheet
pub fresh_agrees : (q : PlanValue) (s : Log) → LaidPlan (plan_in q) → s.places ≡ q.first → s.done ≡ replicate 1024 false → s.free ≡ replicate 64 0 →
    s.kept ≡ 0 → s.exchanges ≡ 0 → s.last ≡ 0 → Agrees (plan_in q) s (fresh (plan_in q))
fresh_agrees q s laid places done free k x e =
    let p = plan_in q in
    let good = laid_good p laid in
    record {
      reached = record { plan = laid; rows = []; steps = refl };
      places = ap places_of (sym places);
      done = sym (ap (take (length p.gates)) done ∙ take-replicate (length p.gates) 1024 false good.few_gates);
      free = sym (ap (take p.chart.wires) free ∙ take-replicate p.chart.wires 64 0 good.not_many);
      kept = sym k;
      exchanges = sym x;
      last = sym e;
    }
