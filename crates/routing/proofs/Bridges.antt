-- For code that scans and loops: from what its loops keep to the words of routing.
use Rattle.std.proofs.Common.{◌≡◌, ℕ, zero, suc, pred, ◌+◌, ◌<◌, ◌≤◌, ◌⊎◌, List, [], ◌∷◌, ◌++◌, map, length, Option, sym, refl, subst, inl, inr, ⊎_elim, append_assoc, arith}
use Rattle.std.proofs.lemmas.Bool.{cases_lt, cases_order}
use Rattle.rows.specs.declared.refusal.Fault.{Fault}
use Rattle.rows.specs.Refusals.{Accepted}
use Rattle.rows.specs.Steps.{Timed, first_of, second_of, trade, row_of}
use Rattle.chip.specs.Charts.{Distance, GoodChart}
use Rattle.sheet.specs.Sheets.{Plan, Log, Front, placed, Keeps}
use Rattle.sheet.specs.Runs.{AllKept, Reached, GoodPlaces, GoodPlan}
use Rattle.routing.specs.Routing.{Candidate, Sum, Adds, tried, Cost, NoWorse, Best, Makes, in_a_row, RouteFits, rows_out, Routed}
use Rattle.routing.proofs.Fronts.{front_same, first_traded, second_traded}
use Rattle.routing.proofs.Making.{cost_same, meets_rules}
use Rattle.routing.proofs.Ending.{made_kept, made_reached}

-- COSTS

-- the sum of the numbers that f gives to 0, 1, .. below n
abbrev pub total : (ℕ → ℕ) → ℕ → ℕ
total f zero = 0
total f (suc n) = total f n + f n

pub sum_by : (F : ℕ → ℕ → Type 0) (f : ℕ → ℕ) (n : ℕ) → ((i : ℕ) → i < n → F i (f i)) → Sum F n (total f n)
sum_by F f zero h = refl
sum_by F f (suc n) h = (total f n, f n, sum_by F f n (λ i k. h i (omega arith)), h n (omega arith), refl)

-- what a gate adds after an exchange, by the front before it
pub adds_elsewhere : (p : Plan) (l : Log) (a b i : ℕ) → ¬ Front p l i → Adds p (tried a b l) i 0
adds_elsewhere p l a b i n = record { in_front = λ f. absurd (n (front_same p (tried a b l) l refl i f)); elsewhere = λ _. refl }

pub adds_front : (p : Plan) → GoodPlan p → (l : Log) → GoodPlaces p.chart.wires (length p.first) l.places → (a b i d : ℕ) → Front p l i →
    Distance p.chart (trade a b (first_of (placed p l i))) (trade a b (second_of (placed p l i))) d → Adds p (tried a b l) i d
adds_front p plan l places a b i d f r = record {
  in_front = λ _. subst (λ y. Distance p.chart (first_of (placed p (tried a b l) i)) y d) (sym (second_traded p plan l places i f.listed a b))
      (subst (λ x. Distance p.chart x (trade a b (second_of (placed p l i))) d) (sym (first_traded p plan l places i f.listed a b)) r);
  elsewhere = λ n. absurd (n (front_same p l (tried a b l) refl i f));
}

-- THE BEST

-- less cost comes first, then the smaller lower wire, then the smaller higher wire
abbrev pub Before : ℕ → ℕ → ℕ → ℕ → ℕ → ℕ → Type 0
Before k a b k' a' b' = (k < k') ⊎ ((k ≡ k') × ((a < a') ⊎ ((a ≡ a') × (b < b'))))

pub no_worse : (k a b k' a' b' : ℕ) → ¬ Before k' a' b' k a b → NoWorse k a b k' a' b'
no_worse k a b k' a' b' n = by_cost (cases_order k k')
  where
    by_low : k ≡ k' → (a ≡ a') ⊎ ((a < a') ⊎ (a' < a)) → NoWorse k a b k' a' b'
    by_low e (inl f) = ⊎_elim (λ h. absurd (n (inr (sym e, inr (sym f, h))))) (λ h. inr (e, inr (f, h))) (cases_lt b' b)
    by_low e (inr (inl h)) = inr (e, inl h)
    by_low e (inr (inr h)) = absurd (n (inr (sym e, inl h)))

    by_cost : (k ≡ k') ⊎ ((k < k') ⊎ (k' < k)) → NoWorse k a b k' a' b'
    by_cost (inl e) = by_low e (cases_order a a')
    by_cost (inr (inl h)) = inl h
    by_cost (inr (inr h)) = absurd (n (inl h))

-- the best by a price that is right for every candidate
pub best_by : (p : Plan) (l : Log) (price : ℕ → ℕ → ℕ) → ((a b : ℕ) → Candidate p l a b → Cost p l a b (price a b)) → (a b : ℕ) → Candidate p l a b →
    ((a' b' : ℕ) → Candidate p l a' b' → ¬ Before (price a' b') a' b' (price a b) a b) → Best p l a b
best_by p l price right a b h first = record {
  candidate = h;
  price = price a b;
  costs = right a b h;
  wins = λ a' b' k' h' s. subst (λ k. NoWorse (price a b) a b k a' b') (cost_same p l a' b' (price a' b') k' (right a' b' h') s)
      (no_worse (price a b) a b (price a' b') a' b' (first a' b' h'));
}

-- A LOOP THAT ROUTES

-- the steps ts lead from one state of routing to another: whatever routing comes to from there, it comes to from the first with ts before
abbrev pub Leads : Plan → Log → ℕ → ℕ → ℕ → List Timed → Log → ℕ → ℕ → ℕ → Type 0
Leads p l left made swaps ts u left' made' swaps' =
    (rest : List Timed) (l' : Log) (e : Option Fault) → Routed p u left' made' swaps' rest l' e → Routed p l left made swaps (ts ++ rest) l' e

pub leads_none : (p : Plan) (l : Log) (left made swaps : ℕ) → Leads p l left made swaps [] l left made swaps
leads_none p l left made swaps rest l' e r = r

pub leads_more : (p : Plan) (l : Log) (left made swaps : ℕ) (ts : List Timed) (u : Log) (left' made' swaps' : ℕ) → Leads p l left made swaps ts u left' made' swaps' →
    (t : Timed) (v : Log) → Makes p u swaps' t → Accepted (RouteFits p u (row_of t) left' made') → Keeps p u t.step t.start v →
    Leads p l left made swaps (ts ++ t ∷ []) v (pred left') (suc made') (in_a_row swaps' t.step)
leads_more p l left made swaps ts u left' made' swaps' so_far t v m ok k rest l' e r = rw append_assoc (so_far (t ∷ rest) l' e (m, ok, (v, k, r)))

-- HOWEVER ROUTING ENDS

module _ (p : Plan) (chip : GoodChart p.chart) where
  -- its steps are kept one after the other, as if each had been offered
  pub routed_kept : (l : Log) → Reached p l → (left made swaps : ℕ) (ts : List Timed) (l' : Log) (e : Option Fault) → Routed p l left made swaps ts l' e → AllKept p l (map row_of ts) l'
  routed_kept l reached left made swaps [] l' e (same, _) = same
  routed_kept l reached left made swaps (t ∷ ts) l' e (m, ok, (u, k, more)) = (
    u,
    made_kept (meets_rules p l reached chip swaps t m) ok k,
    routed_kept u (made_reached p chip l reached left made swaps t u m ok k) (pred left) (suc made) (in_a_row swaps t.step) ts l' e more,
  )

  -- the log that it leaves can come about
  pub routed_reached : (l : Log) → Reached p l → (left made swaps : ℕ) (ts : List Timed) (l' : Log) (e : Option Fault) → Routed p l left made swaps ts l' e → Reached p l'
  routed_reached l reached left made swaps [] l' e (same, _) = subst (Reached p) (sym same) reached
  routed_reached l reached left made swaps (t ∷ ts) l' e (m, ok, (u, k, more)) =
      routed_reached u (made_reached p chip l reached left made swaps t u m ok k) (pred left) (suc made) (in_a_row swaps t.step) ts l' e more

-- there are rows for its steps
pub routed_rows : (p : Plan) (l : Log) (left made swaps : ℕ) (ts : List Timed) (l' : Log) (e : Option Fault) → Routed p l left made swaps ts l' e → length ts ≤ left
routed_rows p l left made swaps [] l' e r = omega arith
routed_rows p l zero made swaps (t ∷ ts) l' e (m, ok, _) = absurd (ok _ _ (rows_out refl))
routed_rows p l (suc left) made swaps (t ∷ ts) l' e (m, ok, (u, k, more)) = let h = routed_rows p u left (suc made) (in_a_row swaps t.step) ts l' e more in omega arith
