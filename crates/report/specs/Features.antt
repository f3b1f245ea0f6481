-- What the report counts gates by.
use Rattle.std.specs.Prelude.{ℕ, Bool, false, List, Some, None, count_by, Option, ◌==◌}
use Rattle.rows.specs.declared.kind.Kind.{Kind}
use Rattle.rows.specs.Kinds.{code, double}
use Rattle.rows.specs.Steps.{Gate, kind_of, has}

-- the gate is of the kind
abbrev pub of_kind : Kind → Gate → Bool
of_kind κ g = code (kind_of g) == code κ

-- it stands on two qubits
abbrev pub on_two : Gate → Bool
on_two g = double (kind_of g)

-- it takes the qubit
abbrev pub on_qubit : ℕ → Gate → Bool
on_qubit q g = has g q

-- what a row decodes to is a gate that passes the test
abbrev pub marked : (Gate → Bool) → Option Gate → Bool
marked test None = false
marked test (Some g) = test g

-- how many gates pass the test
abbrev pub counted : (Gate → Bool) → List Gate → ℕ
counted test gs = count_by test gs
