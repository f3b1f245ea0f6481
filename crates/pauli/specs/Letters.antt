-- The rule of Pauli: a letter a wire and one sign. A gate U takes the product P to U P U†.
use Rattle.std.specs.Prelude.{ℕ, ◌+◌, ◌*◌, ◌/◌, ◌%◌, Bool, true, false, not, ◌&&◌, ◌==◌}
use Rattle.rows.specs.declared.kind.Kind.{Kind}
use Rattle.machine.specs.declared.local.Single.{Single}
use Rattle.machine.specs.declared.local.Double.{Double}
use Rattle.machine.specs.Local.{Rule, Cells, differ}
use Rattle.pauli.specs.declared.Letter.{Letter}

-- x alone is X, z alone is Z, both are Y, none is I
abbrev pub letter : Bool → Bool → Letter
letter x z = record { x = x; z = z }

-- Pauli knows x, y, z, h, s, sdag, cnot and cz
abbrev pub pauli_known : Kind → Bool
pauli_known Kind.X = true
pauli_known Kind.Y = true
pauli_known Kind.Z = true
pauli_known Kind.H = true
pauli_known Kind.S = true
pauli_known Kind.Sdag = true
pauli_known Kind.T = false
pauli_known Kind.Tdag = false
pauli_known Kind.Cnot = true
pauli_known Kind.Cz = true
pauli_known Kind.Crk = false

-- x and z after a gate on one wire, and whether the sign flips
abbrev pub turned : Bool → Bool → Bool → Single Letter
turned x z flips = record { cell = letter x z; flips = flips }

-- the gates on one wire, by the bits x and z before; the other kinds are not known, or stand on two wires
abbrev pub on_one : Kind → Bool → Bool → Single Letter
on_one Kind.X x z = turned x z z
on_one Kind.Y x z = turned x z (differ x z)
on_one Kind.Z x z = turned x z x
on_one Kind.H x z = turned z x (x && z)
on_one Kind.S x z = turned x (differ z x) (x && z)
on_one Kind.Sdag x z = turned x (differ z x) (x && not z)
on_one Kind.T x z = turned x z false
on_one Kind.Tdag x z = turned x z false
on_one Kind.Cnot x z = turned x z false
on_one Kind.Cz x z = turned x z false
on_one Kind.Crk x z = turned x z false

-- the letters after a gate on two wires, and whether the sign flips
abbrev pub turned_two : Letter → Letter → Bool → Double Letter
turned_two u v flips = record { first = u; second = v; flips = flips }

-- the gates on two wires, by the letters u of the first and v of the second before; the other kinds are not known, or stand on one wire
abbrev pub on_two : Kind → Letter → Letter → Double Letter
on_two Kind.X u v = turned_two u v false
on_two Kind.Y u v = turned_two u v false
on_two Kind.Z u v = turned_two u v false
on_two Kind.H u v = turned_two u v false
on_two Kind.S u v = turned_two u v false
on_two Kind.Sdag u v = turned_two u v false
on_two Kind.T u v = turned_two u v false
on_two Kind.Tdag u v = turned_two u v false
on_two Kind.Cnot u v = turned_two (letter u.x (differ u.z v.z)) (letter (differ v.x u.x) v.z) (u.x && v.z && not (differ v.x u.z))
on_two Kind.Cz u v = turned_two (letter u.x (differ u.z v.x)) (letter v.x (differ v.z u.x)) (u.x && v.x && differ u.z v.z)
on_two Kind.Crk u v = turned_two u v false

-- a bit as a number
abbrev pub bit : Bool → ℕ
bit false = 0
bit true = 1

-- it reads x + 2 z
abbrev pub pauli_rule : Rule Letter
pauli_rule = record {
  known = pauli_known;
  single = λ κ k u. on_one κ u.x u.z;
  double = λ κ k u v. on_two κ u v;
  shown = λ u. bit u.x + 2 * bit u.z;
}

-- the letter of a number: its lowest bit is x, the next is z
abbrev pub letter_of : ℕ → Letter
letter_of number = letter (number % 2 == 1) (number / 2 % 2 == 1)

-- no letter on any wire, and plus
abbrev pub identity : ℕ → Cells Letter
identity n = record { width = n; cell = λ w. letter false false; minus = false }
