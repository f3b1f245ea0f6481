-- The kinds of gates: their codes, their names, and whether they stand on two qubits.
use Rattle.std.specs.Prelude.{ℕ, Bool, true, false, cond, ◌&&◌, List, Some, None, codes, Option, ◌==◌, nat_lt}
use Rattle.rows.specs.declared.kind.Kind.{Kind}

-- the code of a kind in rows and chip records; 12 is the exchange
abbrev pub code : Kind → ℕ
code Kind.X = 1
code Kind.Y = 2
code Kind.Z = 3
code Kind.H = 4
code Kind.S = 5
code Kind.Sdag = 6
code Kind.T = 7
code Kind.Tdag = 8
code Kind.Cnot = 9
code Kind.Cz = 10
code Kind.Crk = 11

-- the kind of a code
abbrev pub coded : ℕ → Option Kind
coded c =
    cond (c == 1) (Some Kind.X) (cond (c == 2) (Some Kind.Y) (cond (c == 3) (Some Kind.Z) (cond (c == 4) (Some Kind.H)
    (cond (c == 5) (Some Kind.S) (cond (c == 6) (Some Kind.Sdag) (cond (c == 7) (Some Kind.T) (cond (c == 8) (Some Kind.Tdag)
    (cond (c == 9) (Some Kind.Cnot) (cond (c == 10) (Some Kind.Cz) (cond (c == 11) (Some Kind.Crk) None))))))))))

-- a kind on two qubits
abbrev pub double : Kind → Bool
double Kind.X = false
double Kind.Y = false
double Kind.Z = false
double Kind.H = false
double Kind.S = false
double Kind.Sdag = false
double Kind.T = false
double Kind.Tdag = false
double Kind.Cnot = true
double Kind.Cz = true
double Kind.Crk = true

-- the name of a kind in a circuit's text
abbrev pub name : Kind → List ℕ
name Kind.X = codes "x"
name Kind.Y = codes "y"
name Kind.Z = codes "z"
name Kind.H = codes "h"
name Kind.S = codes "s"
name Kind.Sdag = codes "sdag"
name Kind.T = codes "t"
name Kind.Tdag = codes "tdag"
name Kind.Cnot = codes "cnot"
name Kind.Cz = codes "cz"
name Kind.Crk = codes "crk"

-- crk alone has a k
abbrev pub turns : Kind → Bool
turns κ = code κ == 11

-- k is 1 to 31 for crk, a phase of one 2^k-th of a turn, and 0 for every other kind
abbrev pub k_suits : Kind → ℕ → Bool
k_suits κ k = cond (turns κ) (nat_lt 0 k && nat_lt k 32) (k == 0)
