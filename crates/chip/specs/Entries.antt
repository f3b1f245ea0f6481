-- What the reader takes from a record. Nothing outside this crate cites this.
use Rattle.std.specs.Prelude.{◌≡◌, ℕ, true, false, List, slice_index}
use Rattle.rows.specs.StepKinds.{step_code}
use Rattle.chip.specs.declared.records.Entry.{Entry}
use Rattle.chip.specs.Charts.{Four, four, couples, lasts, amount}

-- the record that four bytes hold
abbrev pub four_in : List ℕ → Four
four_in bs = four (slice_index bs 0) (slice_index bs 1) (slice_index bs 2) (slice_index bs 3)

-- an entry is what the record gives
abbrev pub Gives : ℕ → Four → Entry → Type 0
Gives n r (Entry.Coupling a b) = (couples n r ≡ true) × (r.second ≡ a.0) × (r.third ≡ b.0)
Gives n r (Entry.Duration κ d) = (lasts r ≡ true) × (r.second ≡ step_code κ) × (amount r ≡ d)

-- the record gives neither
abbrev pub GivesNone : ℕ → Four → Type 0
GivesNone n r = (couples n r ≡ false) × (lasts r ≡ false)
