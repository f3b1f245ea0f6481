-- The step that routing makes next, and routing.
use Rattle.std.specs.Prelude.{◌≡◌, ℕ, zero, suc, pred, ◌+◌, ◌-◌, ◌*◌, ◌<◌, ◌≤◌, min, max, Bool, true, false, ◌⊎◌, List, [], ◌∷◌, length, Some, None, Option}
use Rattle.rows.specs.declared.row.Step.{Step as StepRow}
use Rattle.rows.specs.declared.refusal.Refusal.{Refusal}
use Rattle.rows.specs.declared.refusal.Fault.{Fault}
use Rattle.rows.specs.Refusals.{Accepted, Turned}
use Rattle.rows.specs.Steps.{Gate, one, two, Step, gate, swap, Timed, first_of, second_of, has, row_of}
use Rattle.chip.specs.Charts.{Distance, OneNearer, Lowest, joined}
use Rattle.sheet.specs.Sheets.{Plan, Log, Front, placed, places_traded, larger_free, starting, NoneOpen, Keeps}
use Rattle.sheet.specs.Refusals.{StepFits}

-- gate i meets order and coupling
pub record Ready (p : Plan) (l : Log) (i : ℕ) : Type 0 where
  pub front : Front p l i
  pub coupling : joined p.chart (gate (placed p l i)) ≡ true

-- wire w holds a qubit of the front
abbrev pub HoldsFront : Plan → Log → ℕ → Type 0
HoldsFront p l w = (i : ℕ) × Front p l i × (has (placed p l i) w ≡ true)

-- a coupling, its lower wire first, with a wire that holds a qubit of the front
pub record Candidate (p : Plan) (l : Log) (a b : ℕ) : Type 0 where
  pub lower_first : a < b
  pub coupling : p.chart.coupled a b ≡ true
  pub at_front : HoldsFront p l a ⊎ HoldsFront p l b

-- the numbers that F gives to 0, 1, .. below n have the sum k
abbrev pub Sum : (ℕ → ℕ → Type 0) → ℕ → ℕ → Type 0
Sum F zero k = k ≡ 0
Sum F (suc n) k = (j d : ℕ) × Sum F n j × F n d × (k ≡ j + d)

-- gate i adds the distance of its wires if it is of the front, and nothing if it is not
pub record Adds (p : Plan) (l : Log) (i d : ℕ) : Type 0 where
  pub in_front : Front p l i → Distance p.chart (first_of (placed p l i)) (second_of (placed p l i)) d
  pub elsewhere : ¬ Front p l i → d ≡ 0

-- the log with a and b exchanged on the places alone
abbrev pub tried : ℕ → ℕ → Log → Log
tried a b l = record { places = places_traded a b l.places; done = l.done; free = l.free; steps = l.steps }

-- the sum of distances over the front after the exchange of a and b
abbrev pub Cost : Plan → Log → ℕ → ℕ → ℕ → Type 0
Cost p l a b k = Sum (Adds p (tried a b l)) (length p.gates) k

-- the least cost wins, then the smaller lower wire, then the smaller higher wire
abbrev pub NoWorse : ℕ → ℕ → ℕ → ℕ → ℕ → ℕ → Type 0
NoWorse k a b k' a' b' = (k < k') ⊎ ((k ≡ k') × ((a < a') ⊎ ((a ≡ a') × (b ≤ b'))))

-- the candidate that wins
pub record Best (p : Plan) (l : Log) (a b : ℕ) : Type 0 where
  pub candidate : Candidate p l a b
  pub price : ℕ
  pub costs : Cost p l a b price
  pub wins : (a' b' k' : ℕ) → Candidate p l a' b' → Cost p l a' b' k' → NoWorse price a b k' a' b'

-- the exchange of x and w, lower wire first
abbrev pub swap_of : ℕ → ℕ → Step
swap_of x w = swap (min x w) (max x w)

-- the step, starting at the larger free cycle of its wires
abbrev pub timed : Log → Step → Timed
timed l t = starting t (larger_free l.free t)

-- the step that routing makes next, after this many exchanges of the call in a row without a gate
pub data Makes (p : Plan) (l : Log) (swaps : ℕ) (t : Timed) : Type 0 where
  -- the lowest open gate that meets order and coupling
  does : (i : ℕ) → Lowest (Ready p l) i → t ≡ timed l (gate (placed p l i)) → Makes p l swaps t
  -- without one, the best exchange
  exchanges : ((i : ℕ) → ¬ Ready p l i) → swaps < p.chart.wires →
      (a b : ℕ) → Best p l a b → t ≡ timed l (swap a b) → Makes p l swaps t
  -- after as many exchanges in a row as there are wires, the lowest front gate's first wire moves to its lowest neighbour one nearer to the second
  moves : ((i : ℕ) → ¬ Ready p l i) → p.chart.wires ≤ swaps →
      (i : ℕ) → Lowest (Front p l) i → (w : ℕ) → Lowest (OneNearer p.chart (first_of (placed p l i)) (second_of (placed p l i))) w →
      t ≡ timed l (swap_of (first_of (placed p l i)) w) → Makes p l swaps t

-- exchanges in a row without a gate, after one step more
abbrev pub in_a_row : ℕ → Step → ℕ
in_a_row swaps (gate g) = 0
in_a_row swaps (swap a b) = suc swaps

-- why the next step of routing is not made: what refuses a step, or no row left
pub data RouteFits (p : Plan) (l : Log) (r : StepRow) (rows_left rows_written : ℕ) : Refusal → ℕ → Type 0 where
  of_step : {n : Refusal} {q : ℕ} → StepFits p l r n q → RouteFits p l r rows_left rows_written n q
  rows_out : rows_left ≡ 0 → RouteFits p l r rows_left rows_written Refusal.RowsOut rows_written

-- routing ends here: no gate is open, or the next step is refused
abbrev pub Ends : Plan → Log → ℕ → ℕ → ℕ → Option Fault → Type 0
Ends p l left made swaps None = NoneOpen p l
Ends p l left made swaps (Some f) = (t : Timed) × Makes p l swaps t × Turned (RouteFits p l (row_of t) left made) f

-- with so many rows left, steps made and exchanges in a row, routing makes and keeps the steps ts, leaves the log l' and ends with e
abbrev pub Routed : Plan → Log → ℕ → ℕ → ℕ → List Timed → Log → Option Fault → Type 0
Routed p l left made swaps [] l' e = (l' ≡ l) × Ends p l left made swaps e
Routed p l left made swaps (t ∷ ts) l' e =
    Makes p l swaps t × Accepted (RouteFits p l (row_of t) left made) ×
    ((u : Log) × Keeps p l t.step t.start u × Routed p u (pred left) (suc made) (in_a_row swaps t.step) ts l' e)

-- the open gates, in circuit order, and how many are on two qubits
abbrev pub open_of : List Bool → List Gate → List Gate
open_of [] gs = []
open_of (d ∷ ds) [] = []
open_of (true ∷ ds) (g ∷ gs) = open_of ds gs
open_of (false ∷ ds) (g ∷ gs) = g ∷ open_of ds gs

abbrev pub pairs : List Gate → ℕ
pairs [] = 0
pairs (one κ k a ∷ gs) = pairs gs
pairs (two κ k a b ∷ gs) = suc (pairs gs)

-- rows that are always enough: g open gates, p of them on two qubits, on N wires: g + p × (2N − 2)
abbrev pub enough : Plan → Log → ℕ
enough p l = length (open_of l.done p.gates) + pairs (open_of l.done p.gates) * (2 * p.chart.wires - 2)

-- exactly one value has the property
abbrev pub ExactlyOne : {A : Type 0} → (A → Type 0) → Type 0
ExactlyOne {A} P = (x : A) × P x × ((y : A) → P y → y ≡ x)
