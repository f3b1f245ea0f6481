-- What is shown of a book, by the sheets that it agrees with.
use Rattle.std.proofs.Common.{◌≡◌, ℕ, ◌<◌, length, sym, ◌∙◌, arith}
use Rattle.rows.specs.declared.refusal.Refusal.{Refusal}
use Rattle.rows.specs.Numbers.{rank}
use Rattle.rows.specs.Refusals.{Accepted, Turned}
use Rattle.chip.specs.Charts.{Lowest}
use Rattle.sheet.specs.Sheets.{Plan, Log as SheetLog, NoneOpen, tally}
use Rattle.sheet.specs.Refusals.{ClearFits, still_open}
use Rattle.plan.specs.Laying.{plan_in}
use Rattle.book.specs.declared.verdict.Counts.{Counts}
use Rattle.book.specs.declared.book.Book.{Book}
use Rattle.book.specs.Books.{Holds, ListedOpen, tallied}

module _ (b : Book) (l : SheetLog) (h : Holds b l) where
  counts_same : (c : Counts) → c.gates ≡ length (plan_in b.plan).gates → c.kept ≡ b.log.kept → c.exchanges ≡ b.log.exchanges → c.last ≡ b.log.last →
      tallied c ≡ tally (plan_in b.plan) l
  counts_same c g k x e = λ i. record { gates = g i; kept = (k ∙ sym h.kept) i; exchanges = (x ∙ sym h.exchanges) i; last = (e ∙ sym h.last) i }

  pub clear_counts : (c : Counts) → NoneOpen (plan_in b.plan) l → c.gates ≡ length (plan_in b.plan).gates → c.kept ≡ b.log.kept → c.exchanges ≡ b.log.exchanges → c.last ≡ b.log.last →
      Accepted (ClearFits (plan_in b.plan) l) × (tallied c ≡ tally (plan_in b.plan) l)
  clear_counts c none g k x e = ((λ r q f. refuted f), counts_same c g k x e)
    where
      refuted : {r : Refusal} {q : ℕ} → ClearFits (plan_in b.plan) l r q → ⊥
      refuted (still_open {i} m o) = none i m o

-- the refusal at the lowest open gate
pub turned_open : (p : Plan) (l : SheetLog) (i : ℕ) → Lowest (ListedOpen p l) i → Turned (ClearFits p l) (record { refusal = Refusal.Open; place = i })
turned_open p l i x = record {
  holds = still_open x.holds.0 x.holds.1;
  first = λ q m f. earlier f m;
  least = λ r q m f. lower f m;
}
  where
    earlier : {q : ℕ} → ClearFits p l Refusal.Open q → q < i → ⊥
    earlier (still_open {i = j} k o) m = x.none_lower j m (k, o)

    lower : {r : Refusal} {q : ℕ} → ClearFits p l r q → rank r < 23 → ⊥
    lower (still_open k o) m = omega arith
