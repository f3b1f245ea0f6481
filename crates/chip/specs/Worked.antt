-- Chips worked by hand, from the definitions alone.
use Rattle.std.specs.Prelude.{ℕ, List, [], ◌∷◌, ◌++◌}
use Rattle.rows.specs.declared.refusal.Refusal.{Refusal}
use Rattle.rows.specs.Refusals.{Accepted, Turned}
use Rattle.chip.specs.Charts.{chart, Distance, ChipFits}

-- one-qubit kinds last 1 cycle, the exchange 6, the others 2
abbrev pub times : List ℕ
times = 2 ∷ 1 ∷ 1 ∷ 0 ∷ 2 ∷ 2 ∷ 1 ∷ 0 ∷ 2 ∷ 3 ∷ 1 ∷ 0 ∷ 2 ∷ 4 ∷ 1 ∷ 0 ∷ 2 ∷ 5 ∷ 1 ∷ 0 ∷ 2 ∷ 6 ∷ 1 ∷ 0 ∷ 2 ∷ 7 ∷ 1 ∷ 0 ∷ 2 ∷ 8 ∷ 1 ∷ 0
    ∷ 2 ∷ 9 ∷ 2 ∷ 0 ∷ 2 ∷ 10 ∷ 2 ∷ 0 ∷ 2 ∷ 11 ∷ 2 ∷ 0 ∷ 2 ∷ 12 ∷ 6 ∷ 0 ∷ []

-- with a coupling of wires 0 and 1
abbrev pub pair_records : List ℕ
pair_records = times ++ 1 ∷ 0 ∷ 1 ∷ 0 ∷ []

-- with the couplings 0-1, 0-2, 1-3, 2-3
abbrev pub square_records : List ℕ
square_records = times ++ 1 ∷ 0 ∷ 1 ∷ 0 ∷ 1 ∷ 0 ∷ 2 ∷ 0 ∷ 1 ∷ 1 ∷ 3 ∷ 0 ∷ 1 ∷ 2 ∷ 3 ∷ 0 ∷ []

pub record WorkedChips : Type 0 where
  -- three wires, of which only 0 and 1 are coupled, are refused as parted at wire 2
  pub three_wires : Turned (ChipFits 3 pair_records) (record { refusal = Refusal.Parted; place = 2 })
  -- the square of four wires is a chip, and its opposite wires 0 and 3 are two couplings apart
  pub square : Accepted (ChipFits 4 square_records)
  pub opposite : Distance (chart 4 square_records) 0 3 2
