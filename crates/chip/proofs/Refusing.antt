-- The refusals of a chip, in the order in which they are judged.
use Rattle.std.proofs.Common.{◌≡◌, ℕ, ◌<◌, ◌≤◌, List, length, arith}
use Rattle.rows.specs.declared.refusal.Refusal.{Refusal}
use Rattle.rows.specs.Numbers.{rank}
use Rattle.rows.specs.Refusals.{Accepted, Turned}
use Rattle.chip.specs.Charts.{records, chart, Walk, GoodRecord, Even, ChipFits, ragged, bad_record, no_duration, parted}

module _ (n : ℕ) (bs : List ℕ) where
  pub turned_7 : ¬ Even n bs → Turned (ChipFits n bs) (record { refusal = Refusal.RaggedChip; place = 0 })
  turned_7 h = record { holds = ragged h; first = λ q l. let f : ⊥ = omega arith in absurd f; least = below_7 }
    where
      below_7 : (r : Refusal) (q : ℕ) → rank r < 7 → ChipFits n bs r q → ⊥
      below_7 r q l (ragged x) = omega arith
      below_7 r q l (bad_record x y) = omega arith
      below_7 r q l (no_duration x y z) = omega arith
      below_7 r q l (parted x y) = omega arith

  module _ (even : Even n bs) where
    below_8 : (r : Refusal) (q : ℕ) → rank r < 8 → ChipFits n bs r q → ⊥
    below_8 r q l (ragged x) = x even
    below_8 r q l (bad_record x y) = omega arith
    below_8 r q l (no_duration x y z) = omega arith
    below_8 r q l (parted x y) = omega arith

    at_8 : {q : ℕ} → ChipFits n bs Refusal.BadRecord q → ¬ GoodRecord n bs q
    at_8 (bad_record x y) = y

    pub turned_8 : (i : ℕ) → i < length (records bs) → ¬ GoodRecord n bs i → ((j : ℕ) → j < i → GoodRecord n bs j)
        → Turned (ChipFits n bs) (record { refusal = Refusal.BadRecord; place = i })
    turned_8 i l b h = record { holds = bad_record l b; first = λ q p f. at_8 f (h q p); least = below_8 }

    module _ (good : (i : ℕ) → i < length (records bs) → GoodRecord n bs i) where
      below_9 : (r : Refusal) (q : ℕ) → rank r < 9 → ChipFits n bs r q → ⊥
      below_9 r q l (ragged x) = x even
      below_9 r q l (bad_record x y) = y (good q x)
      below_9 r q l (no_duration x y z) = omega arith
      below_9 r q l (parted x y) = omega arith

      at_9 : {q : ℕ} → ChipFits n bs Refusal.NoDuration q → (1 ≤ q) × ((chart n bs).cycles q ≡ 0)
      at_9 (no_duration x y z) = (x, z)

      pub turned_9 : (k : ℕ) → 1 ≤ k → k ≤ 12 → (chart n bs).cycles k ≡ 0 → ((q : ℕ) → 1 ≤ q → q < k → 1 ≤ (chart n bs).cycles q)
          → Turned (ChipFits n bs) (record { refusal = Refusal.NoDuration; place = k })
      turned_9 k l m z h = record {
        holds = no_duration l m z;
        first = λ q p f. let a = at_9 f in let b = h q a.0 p in omega (arith, a.1);
        least = below_9;
      }

      module _ (timed : (k : ℕ) → 1 ≤ k → k ≤ 12 → 1 ≤ (chart n bs).cycles k) where
        below_10 : (r : Refusal) (q : ℕ) → rank r < 10 → ChipFits n bs r q → ⊥
        below_10 r q l (ragged x) = x even
        below_10 r q l (bad_record x y) = y (good q x)
        below_10 r q l (no_duration x y z) = omega (arith, timed q x y, z)
        below_10 r q l (parted x y) = omega arith

        at_10 : {q : ℕ} → ChipFits n bs Refusal.Parted q → (d : ℕ) → ¬ Walk (chart n bs) d 0 q
        at_10 (parted x y) = y

        pub turned_10 : (w : ℕ) → w < n → ((d : ℕ) → ¬ Walk (chart n bs) d 0 w) → ((v : ℕ) → v < w → (d : ℕ) × Walk (chart n bs) d 0 v)
            → Turned (ChipFits n bs) (record { refusal = Refusal.Parted; place = w })
        turned_10 w l b h = record { holds = parted l b; first = λ q p f. let z = h q p in at_10 f z.0 z.1; least = below_10 }

        pub accepted : ((v : ℕ) → v < n → (d : ℕ) × Walk (chart n bs) d 0 v) → Accepted (ChipFits n bs)
        accepted h r q (ragged x) = x even
        accepted h r q (bad_record x y) = y (good q x)
        accepted h r q (no_duration x y z) = omega (arith, timed q x y, z)
        accepted h r q (parted x y) = let w = h q x in y w.0 w.1
