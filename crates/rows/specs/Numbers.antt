-- The numbers, layers and ranks of refusals.
use Rattle.std.specs.Prelude.{ℕ}
use Rattle.rows.specs.declared.refusal.Refusal.{Refusal}
use Rattle.rows.specs.declared.refusal.Layer.{Layer}

abbrev pub number : Refusal → ℕ
number Refusal.NoCircuit = 1
number Refusal.Unreadable = 2
number Refusal.OffCircuit = 3
number Refusal.Twice = 4
number Refusal.NoRow = 5
number Refusal.LaidAlready = 6
number Refusal.RaggedChip = 7
number Refusal.BadRecord = 8
number Refusal.NoDuration = 9
number Refusal.Parted = 10
number Refusal.BadPlaces = 11
number Refusal.BadGate = 12
number Refusal.Narrow = 13
number Refusal.UnknownKind = 14
number Refusal.Unlaid = 15
number Refusal.BadStep = 16
number Refusal.Uncoupled = 17
number Refusal.Busy = 18
number Refusal.Late = 19
number Refusal.NotNext = 20
number Refusal.Full = 21
number Refusal.RowsOut = 22
number Refusal.Open = 23
number Refusal.NoQubit = 24

-- the number of a layer
abbrev pub layer_number : Layer → ℕ
layer_number Layer.Text = 1
layer_number Layer.Chip = 2
layer_number Layer.Bench = 3
layer_number Layer.Route = 4

-- the layer that refuses
abbrev pub layer_of : Refusal → Layer
layer_of Refusal.NoCircuit = Layer.Text
layer_of Refusal.Unreadable = Layer.Text
layer_of Refusal.OffCircuit = Layer.Text
layer_of Refusal.Twice = Layer.Text
layer_of Refusal.NoRow = Layer.Text
layer_of Refusal.LaidAlready = Layer.Bench
layer_of Refusal.RaggedChip = Layer.Chip
layer_of Refusal.BadRecord = Layer.Chip
layer_of Refusal.NoDuration = Layer.Chip
layer_of Refusal.Parted = Layer.Chip
layer_of Refusal.BadPlaces = Layer.Bench
layer_of Refusal.BadGate = Layer.Bench
layer_of Refusal.Narrow = Layer.Bench
layer_of Refusal.UnknownKind = Layer.Bench
layer_of Refusal.Unlaid = Layer.Bench
layer_of Refusal.BadStep = Layer.Bench
layer_of Refusal.Uncoupled = Layer.Bench
layer_of Refusal.Busy = Layer.Bench
layer_of Refusal.Late = Layer.Bench
layer_of Refusal.NotNext = Layer.Bench
layer_of Refusal.Full = Layer.Bench
layer_of Refusal.RowsOut = Layer.Route
layer_of Refusal.Open = Layer.Bench
layer_of Refusal.NoQubit = Layer.Bench

-- the number of the layer that refuses: 1 text, 2 chip, 3 bench, 4 route
abbrev pub layer : Refusal → ℕ
layer r = layer_number (layer_of r)

-- the order in which conditions are judged: of those that hold, the lowest rank is answered
abbrev pub rank : Refusal → ℕ
rank r = number r
