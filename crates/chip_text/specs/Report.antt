-- What is printed of a chip.
use Rattle.std.specs.Prelude.{◌≡◌, ℕ, zero, suc, ◌+◌, ◌<◌, max, Bool, cond, ◌&&◌, ◌⊎◌, List, [], ◌∷◌, ◌++◌, Some, None, codes, decimal, Option, nat_lt}
use Rattle.rows.specs.declared.kind.Kind.{Kind}
use Rattle.rows.specs.declared.refusal.Fault.{Fault}
use Rattle.rows.specs.Kinds.{coded, name}
use Rattle.rows.specs.Printed.{refusal_line}
use Rattle.rows.specs.Refusals.{Accepted, Turned}
use Rattle.chip.specs.Charts.{Chart, chart, Distance, ChipFits}

-- what f gives at 0, 1, .. n - 1, one after the other
abbrev pub each : ℕ → (ℕ → List ℕ) → List ℕ
each zero f = []
each (suc n) f = each n f ++ f n

-- the largest of f at 0, 1, .. n - 1, and 0 if n is 0
abbrev pub largest : ℕ → (ℕ → ℕ) → ℕ
largest zero f = 0
largest (suc n) f = max (largest n f) (f n)

-- how many of 0, 1, .. n - 1 pass the test
abbrev pub count : ℕ → (ℕ → Bool) → ℕ
count zero f = 0
count (suc n) f = count n f + cond (f n) 1 0

-- the name of a kind by its code, 12 for the exchange
abbrev pub kind_name : Option Kind → List ℕ
kind_name None = codes "swap"
kind_name (Some κ) = name κ

abbrev pub wires_line : ℕ → List ℕ
wires_line n = codes "wires " ++ (decimal n ++ codes "\n")

abbrev pub coupling_line : ℕ → ℕ → List ℕ
coupling_line a b = codes "coupled " ++ (decimal a ++ (codes " " ++ (decimal b ++ codes "\n")))

-- a line if a is the lower wire and the two are coupled, else nothing
abbrev pub coupling_part : Chart → ℕ → ℕ → List ℕ
coupling_part c a b = cond (nat_lt a b && c.coupled a b) (coupling_line a b) []

-- the couplings of wire a with higher wires
abbrev pub couplings_of : Chart → ℕ → List ℕ
couplings_of c a = each c.wires (coupling_part c a)

abbrev pub couplings : Chart → List ℕ
couplings c = each c.wires (couplings_of c)

abbrev pub duration_line : List ℕ → ℕ → List ℕ
duration_line kind cycles = codes "duration " ++ (kind ++ (codes " " ++ (decimal cycles ++ codes "\n")))

-- kinds 1 to 12
abbrev pub durations : Chart → List ℕ
durations c = each 12 (λ i. duration_line (kind_name (coded (i + 1))) (c.cycles (i + 1)))

-- the distances from wire a to each wire, in one line
abbrev pub distance_line : ℕ → (ℕ → ℕ → ℕ) → ℕ → List ℕ
distance_line n far a = codes "distances" ++ (each n (λ b. codes " " ++ decimal (far a b)) ++ codes "\n")

abbrev pub distances : ℕ → (ℕ → ℕ → ℕ) → List ℕ
distances n far = each n (distance_line n far)

-- the largest distance of two wires
abbrev pub diameter : ℕ → (ℕ → ℕ → ℕ) → ℕ
diameter n far = largest n (λ a. largest n (far a))

abbrev pub diameter_line : ℕ → List ℕ
diameter_line d = codes "diameter " ++ (decimal d ++ codes "\n")

-- with how many wires wire a is coupled
abbrev pub degree : Chart → ℕ → ℕ
degree c a = count c.wires (c.coupled a)

abbrev pub degree_line : Chart → ℕ → List ℕ
degree_line c a = codes "degree " ++ (decimal a ++ (codes " " ++ (decimal (degree c a) ++ codes "\n")))

abbrev pub degrees : Chart → List ℕ
degrees c = each c.wires (degree_line c)

-- far gives the distance of every two wires
abbrev pub Far : Chart → (ℕ → ℕ → ℕ) → Type 0
Far c far = (a b : ℕ) → a < c.wires → b < c.wires → Distance c a b (far a b)

-- the whole text of a chip
abbrev pub chip_text : Chart → (ℕ → ℕ → ℕ) → List ℕ
chip_text c far =
    wires_line c.wires
    ++ (couplings c ++ (durations c ++ (distances c.wires far ++ (diameter_line (diameter c.wires far) ++ degrees c))))

-- the text for n wires and record bytes: of the chip if no condition of refusal holds, else of the refusal to be answered
abbrev pub Text : ℕ → List ℕ → List ℕ → Type 0
Text n bs out =
    (Accepted (ChipFits n bs) × ((far : ℕ → ℕ → ℕ) × Far (chart n bs) far × (out ≡ chip_text (chart n bs) far)))
    ⊎ ((f : Fault) × Turned (ChipFits n bs) f × (out ≡ refusal_line f))

-- the text for an input: its first byte is the number of wires, 0 if it is empty, the others are the records
abbrev pub Printed : List ℕ → List ℕ → Type 0
Printed [] out = Text 0 [] out
Printed (n ∷ bs) out = Text n bs out
