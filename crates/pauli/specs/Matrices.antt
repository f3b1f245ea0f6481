-- Matrices over the Gaussian integers: those of the gates that Pauli knows, and of the four letters.
use Rattle.std.specs.Prelude.{Bool, true, false, cond, List, [], ◌∷◌, ◌++◌, map, ℤ, pos, negsuc, ◌+ℤ◌, ◌-ℤ◌, ◌*ℤ◌, neg_ℤ}
use Rattle.rows.specs.declared.kind.Kind.{Kind}
use Rattle.pauli.specs.declared.Letter.{Letter}

-- a number re + im i
pub record Gauss : Type 0 where
  pub re : ℤ
  pub im : ℤ

abbrev pub gauss : ℤ → ℤ → Gauss
gauss a b = record { re = a; im = b }

abbrev pub o : Gauss
o = gauss (pos 0) (pos 0)

abbrev pub 𝟙 : Gauss
𝟙 = gauss (pos 1) (pos 0)

abbrev pub -𝟙 : Gauss
-𝟙 = gauss (negsuc 0) (pos 0)

abbrev pub 𝕚 : Gauss
𝕚 = gauss (pos 0) (pos 1)

abbrev pub -𝕚 : Gauss
-𝕚 = gauss (pos 0) (negsuc 0)

abbrev pub plus : Gauss → Gauss → Gauss
plus a b = gauss (a.re +ℤ b.re) (a.im +ℤ b.im)

abbrev pub times : Gauss → Gauss → Gauss
times a b = gauss (a.re *ℤ b.re -ℤ a.im *ℤ b.im) (a.re *ℤ b.im +ℤ a.im *ℤ b.re)

abbrev pub conjugate : Gauss → Gauss
conjugate a = gauss a.re (neg_ℤ a.im)

-- a matrix, row by row
abbrev pub Row : Type 0
Row = List Gauss

abbrev pub Matrix : Type 0
Matrix = List Row

abbrev pub sums : Row → Row → Row
sums [] ys = ys
sums (x ∷ xs) [] = x ∷ xs
sums (x ∷ xs) (y ∷ ys) = plus x y ∷ sums xs ys

-- the sum of the rows of a matrix, each with its factor
abbrev pub combined : Row → Matrix → Row
combined [] rows = []
combined (x ∷ xs) [] = []
combined (x ∷ xs) (row ∷ rows) = sums (map (times x) row) (combined xs rows)

-- the product: each row of the left one combines the rows of the right one
infixl 7 ◌·◌
abbrev pub ◌·◌ : Matrix → Matrix → Matrix
m · n = map (λ row. combined row n) m

abbrev pub scaled : Gauss → Matrix → Matrix
scaled a m = map (map (times a)) m

-- the Kronecker product, block by block
abbrev pub spread : Row → Row → Row
spread [] ys = []
spread (x ∷ xs) ys = map (times x) ys ++ spread xs ys

infixl 8 ◌⊗◌
abbrev pub ◌⊗◌ : Matrix → Matrix → Matrix
[] ⊗ n = []
(row ∷ rows) ⊗ n = map (spread row) n ++ (rows ⊗ n)

-- U†, the conjugate of the transposed matrix
abbrev pub beside : Row → Matrix → Matrix
beside [] rows = rows
beside (x ∷ xs) [] = (conjugate x ∷ []) ∷ beside xs []
beside (x ∷ xs) (row ∷ rows) = (conjugate x ∷ row) ∷ beside xs rows

abbrev pub dagger : Matrix → Matrix
dagger [] = []
dagger (row ∷ rows) = beside row (dagger rows)

-- a matrix of two rows, and one of four
abbrev pub two_rows : Gauss → Gauss → Gauss → Gauss → Matrix
two_rows a b c d = (a ∷ b ∷ []) ∷ (c ∷ d ∷ []) ∷ []

abbrev pub row : Gauss → Gauss → Gauss → Gauss → Row
row a b c d = a ∷ b ∷ c ∷ d ∷ []

abbrev pub four_rows : Row → Row → Row → Row → Matrix
four_rows a b c d = a ∷ b ∷ c ∷ d ∷ []

-- the four letters: I, X, Y and Z
abbrev pub lettered : Bool → Bool → Matrix
lettered false false = two_rows 𝟙 o o 𝟙
lettered true false = two_rows o 𝟙 𝟙 o
lettered true true = two_rows o -𝕚 𝕚 o
lettered false true = two_rows 𝟙 o o -𝟙

abbrev pub matrix_of : Letter → Matrix
matrix_of u = lettered u.x u.z

-- an operator with its sign
abbrev pub signed : Bool → Matrix → Matrix
signed minus m = cond minus (scaled -𝟙 m) m

-- the matrix of a gate; h without its factor, one over the root of 2. A kind that Pauli does not know has none here
abbrev pub unitary : Kind → Matrix
unitary Kind.X = two_rows o 𝟙 𝟙 o
unitary Kind.Y = two_rows o -𝕚 𝕚 o
unitary Kind.Z = two_rows 𝟙 o o -𝟙
unitary Kind.H = two_rows 𝟙 𝟙 𝟙 -𝟙
unitary Kind.S = two_rows 𝟙 o o 𝕚
unitary Kind.Sdag = two_rows 𝟙 o o -𝕚
unitary Kind.T = []
unitary Kind.Tdag = []
unitary Kind.Cnot = four_rows (row 𝟙 o o o) (row o 𝟙 o o) (row o o o 𝟙) (row o o 𝟙 o)
unitary Kind.Cz = four_rows (row 𝟙 o o o) (row o 𝟙 o o) (row o o 𝟙 o) (row o o o -𝟙)
unitary Kind.Crk = []

-- U U† is this number times the unit matrix: 2 for h, whose factor is left out
abbrev pub norm : Kind → Gauss
norm Kind.X = 𝟙
norm Kind.Y = 𝟙
norm Kind.Z = 𝟙
norm Kind.H = gauss (pos 2) (pos 0)
norm Kind.S = 𝟙
norm Kind.Sdag = 𝟙
norm Kind.T = 𝟙
norm Kind.Tdag = 𝟙
norm Kind.Cnot = 𝟙
norm Kind.Cz = 𝟙
norm Kind.Crk = 𝟙
