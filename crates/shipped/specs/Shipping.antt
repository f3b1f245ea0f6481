-- The shipped chips: their numbers of wires and their records, in the order of the texts in chips/.
use Rattle.std.specs.Prelude.{◌≡◌, ℕ, ◌⊎◌, List, [], ◌∷◌, ◌++◌, codes}

-- the record that couples two wires
abbrev pub couple : ℕ → ℕ → List ℕ
couple a b = 1 ∷ a ∷ b ∷ 0 ∷ []

-- the record of the cycles, below 256, of the kind with this code; 12 for the exchange
abbrev pub lasts : ℕ → ℕ → List ℕ
lasts code cycles = 2 ∷ code ∷ cycles ∷ 0 ∷ []

-- four wires in a square
abbrev pub square : List ℕ
square = (lasts 1 1 ++ (lasts 2 1 ++ (lasts 3 1 ++ (lasts 4 1 ++ (lasts 5 1 ++ (lasts 6 1 ++ (lasts 7 1 ++ (lasts 8 1 ++ (lasts 9 2 ++ (lasts 10 2 ++ (lasts 11 2 ++ (lasts 12 6 ++ (couple 0 1 ++ (couple 0 2 ++ (couple 1 3 ++ couple 2 3)))))))))))))))

-- a rotated surface code: data wires 0 to 8 row by row, check wires 9 to 16
abbrev pub surface17 : List ℕ
surface17 = (lasts 1 1 ++ (lasts 2 1 ++ (lasts 3 1 ++ (lasts 4 1 ++ (lasts 5 1 ++ (lasts 6 1 ++ (lasts 7 1 ++ (lasts 8 1 ++ (lasts 9 4 ++ (lasts 10 2 ++ (lasts 11 4 ++ (lasts 12 12 ++ (couple 9 1 ++ (couple 9 2 ++ (couple 10 0 ++ (couple 10 1 ++ (couple 10 3 ++ (couple 10 4 ++ (couple 11 1 ++ (couple 11 2 ++ (couple 11 4 ++ (couple 11 5 ++ (couple 12 0 ++ (couple 12 3 ++ (couple 13 5 ++ (couple 13 8 ++ (couple 14 3 ++ (couple 14 4 ++ (couple 14 6 ++ (couple 14 7 ++ (couple 15 4 ++ (couple 15 5 ++ (couple 15 7 ++ (couple 15 8 ++ (couple 16 6 ++ couple 16 7)))))))))))))))))))))))))))))))))))

-- four rows of five wires: neighbours in rows and in columns, and crossed pairs
abbrev pub grid20 : List ℕ
grid20 = (lasts 1 1 ++ (lasts 2 1 ++ (lasts 3 1 ++ (lasts 4 1 ++ (lasts 5 1 ++ (lasts 6 1 ++ (lasts 7 1 ++ (lasts 8 1 ++ (lasts 9 4 ++ (lasts 10 2 ++ (lasts 11 4 ++ (lasts 12 6 ++ (couple 0 1 ++ (couple 1 2 ++ (couple 2 3 ++ (couple 3 4 ++ (couple 5 6 ++ (couple 6 7 ++ (couple 7 8 ++ (couple 8 9 ++ (couple 10 11 ++ (couple 11 12 ++ (couple 12 13 ++ (couple 13 14 ++ (couple 15 16 ++ (couple 16 17 ++ (couple 17 18 ++ (couple 18 19 ++ (couple 0 5 ++ (couple 1 6 ++ (couple 2 7 ++ (couple 3 8 ++ (couple 4 9 ++ (couple 5 10 ++ (couple 6 11 ++ (couple 7 12 ++ (couple 8 13 ++ (couple 9 14 ++ (couple 10 15 ++ (couple 11 16 ++ (couple 12 17 ++ (couple 13 18 ++ (couple 14 19 ++ (couple 1 7 ++ (couple 2 6 ++ (couple 3 9 ++ (couple 4 8 ++ (couple 5 11 ++ (couple 6 10 ++ (couple 7 13 ++ (couple 8 12 ++ (couple 11 17 ++ (couple 12 16 ++ (couple 13 19 ++ couple 14 18))))))))))))))))))))))))))))))))))))))))))))))))))))))

-- the chip of this name has so many wires and these records
abbrev pub Ships : List ℕ → ℕ → List ℕ → Type 0
Ships name wires records =
    ((name ≡ codes "square") × (wires ≡ 4) × (records ≡ square))
    ⊎ (((name ≡ codes "surface17") × (wires ≡ 17) × (records ≡ surface17))
    ⊎ ((name ≡ codes "grid20") × (wires ≡ 20) × (records ≡ grid20)))

-- no chip has this name
abbrev pub Unshipped : List ℕ → Type 0
Unshipped name = (¬ (name ≡ codes "square")) × (¬ (name ≡ codes "surface17")) × (¬ (name ≡ codes "grid20"))
