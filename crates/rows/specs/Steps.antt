-- Gates and steps, and the rows that write them. A gate stands at qubits in a circuit, and at wires in a step.
use Rattle.std.specs.Prelude.{◌≡◌, ℕ, Bool, true, false, cond, not, ◌&&◌, ◌||◌, List, [], ◌∷◌, Some, None, Option, ◌==◌, nat_lt}
use Rattle.rows.specs.declared.kind.Kind.{Kind}
use Rattle.rows.specs.declared.row.Gate.{Gate as GateRow}
use Rattle.rows.specs.declared.row.Step.{Step as StepRow}
use Rattle.rows.specs.declared.place.Logical.{Logical}
use Rattle.rows.specs.declared.placed.Placed.{Placed}
use Rattle.rows.specs.declared.row.Action.{Action}
use Rattle.rows.specs.Kinds.{code, coded, double, k_suits}

-- a kind, its k, and its one place, or its first and its second
pub data Gate : Type 0 where
  one : Kind → ℕ → ℕ → Gate
  two : Kind → ℕ → ℕ → ℕ → Gate

-- a gate at wires, or an exchange of two wires
pub data Step : Type 0 where
  gate : Gate → Step
  swap : ℕ → ℕ → Step

-- a step with its start cycle
pub record Timed : Type 0 where
  pub step : Step
  pub start : ℕ

abbrev pub kind_of : Gate → Kind
kind_of (one κ k a) = κ
kind_of (two κ k a b) = κ

abbrev pub k_of : Gate → ℕ
k_of (one κ k a) = k
k_of (two κ k a b) = k

-- a gate with one place has it for both
abbrev pub first_of : Gate → ℕ
first_of (one κ k a) = a
first_of (two κ k a b) = a

abbrev pub second_of : Gate → ℕ
second_of (one κ k a) = a
second_of (two κ k a b) = b

abbrev pub first_wire : Step → ℕ
first_wire (gate g) = first_of g
first_wire (swap a b) = a

abbrev pub second_wire : Step → ℕ
second_wire (gate g) = second_of g
second_wire (swap a b) = b

-- two different places below n
abbrev pub pair_below : ℕ → ℕ → ℕ → Bool
pair_below n a b = nat_lt a n && (nat_lt b n && not (a == b))

-- a gate's places suit its kind, are below n, and are different if they are two
abbrev pub fits : ℕ → Gate → Bool
fits n (one κ k a) = not (double κ) && nat_lt a n
fits n (two κ k a b) = double κ && pair_below n a b

-- w is a place of the gate
abbrev pub has : Gate → ℕ → Bool
has (one κ k a) w = a == w
has (two κ k a b) w = a == w || b == w

-- the gates have a place in common
abbrev pub shares : Gate → Gate → Bool
shares g (one κ k a) = has g a
shares g (two κ k a b) = has g a || has g b

-- the gate at other places
abbrev pub relabel : (ℕ → ℕ) → Gate → Gate
relabel f (one κ k a) = one κ k (f a)
relabel f (two κ k a b) = two κ k (f a) (f b)

-- a and b traded
abbrev pub trade : ℕ → ℕ → ℕ → ℕ
trade a b w = cond (w == a) b (cond (w == b) a w)

-- the gate of a kind at a and, if the kind is on two, b
abbrev pub gate_on : Kind → ℕ → ℕ → ℕ → Gate
gate_on κ k a b = cond (double κ) (two κ k a b) (one κ k a)

-- this value if the test holds, else none
abbrev pub when : {A : Type 0} → Bool → A → Option A
when true x = Some x
when false x = None

-- second is 0 for a kind on one qubit, k suits the kind, places are below n, and two are different
abbrev pub well_formed : ℕ → Kind → ℕ → ℕ → ℕ → Bool
well_formed n κ a b k = (double κ || b == 0) && (k_suits κ k && fits n (gate_on κ k a b))

abbrev pub formed : ℕ → Option Kind → ℕ → ℕ → ℕ → Option Gate
formed n None a b k = None
formed n (Some κ) a b k = when (well_formed n κ a b k) (gate_on κ k a b)

-- the gate of a gate row in a circuit of n qubits; none if the row is not as it should be
abbrev pub gate_of : ℕ → GateRow → Option Gate
gate_of n r = formed n (coded r.kind) r.first.0 r.second.0 r.k

abbrev pub as_step : Option Gate → Option Step
as_step None = None
as_step (Some g) = Some (gate g)

-- the step of a step row on a chip of n wires; none if the row's shape is wrong. Kind 12 is the exchange
abbrev pub step_of : ℕ → StepRow → Option Step
step_of n r = cond (r.kind == 12)
    (when (r.k == 0 && pair_below n r.first.0 r.second.0) (swap r.first.0 r.second.0))
    (as_step (formed n (coded r.kind) r.first.0 r.second.0 r.k))

-- the gates of gate rows
abbrev pub gates_of : ℕ → List GateRow → List Gate
gates_of n [] = []
gates_of n (r ∷ rs) = elim (gate_of n r) [ None ↦ gates_of n rs | Some g ↦ g ∷ gates_of n rs ]

-- a gate row from its four parts, and the row of a gate
abbrev pub gate_row : ℕ → ℕ → ℕ → ℕ → GateRow
gate_row κ a b k = record { kind = κ; first = record { 0 = a }; second = record { 0 = b }; k = k }

abbrev pub row_of_gate : Gate → GateRow
row_of_gate (one κ k a) = gate_row (code κ) a 0 k
row_of_gate (two κ k a b) = gate_row (code κ) a b k

-- a step row from its five parts, and the row of a step
abbrev pub step_row : ℕ → ℕ → ℕ → ℕ → ℕ → StepRow
step_row κ a b k s = record { kind = κ; first = record { 0 = a }; second = record { 0 = b }; k = k; start = s }

abbrev pub written : Step → ℕ → StepRow
written (gate (one κ k a)) s = step_row (code κ) a 0 k s
written (gate (two κ k a b)) s = step_row (code κ) a b k s
written (swap a b) s = step_row 12 a b 0 s

abbrev pub row_of : Timed → StepRow
row_of t = written t.step t.start

-- the gate at places that have these numbers
abbrev pub placed : {P : Type 0} → (P → ℕ) → Placed P → Gate
placed number (Placed.One κ k a) = one κ k (number a)
placed number (Placed.Two κ k a b) = two κ k (number a) (number b)

-- the gate and the step that a decoded row means
abbrev pub gate_at : Placed Logical → Gate
gate_at g = placed (λ q. q.0) g

abbrev pub step_at : Action → Step
step_at (Action.Gate g) = gate (placed (λ w. w.0) g)
step_at (Action.Exchange a b) = swap a.0 b.0

-- a gate of a circuit of n qubits, or on a chip of n wires: its places and its k are as they should be
pub record GoodGate (n : ℕ) (g : Gate) : Type 0 where
  pub fitting : fits n g ≡ true
  pub k : k_suits (kind_of g) (k_of g) ≡ true

-- the same of a step
abbrev pub GoodStep : ℕ → Step → Type 0
GoodStep n (gate g) = GoodGate n g
GoodStep n (swap a b) = pair_below n a b ≡ true
