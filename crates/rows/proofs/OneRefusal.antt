-- One answer at most: no two refusals have one rank, so of any conditions one fault at most is answered.
use Rattle.std.proofs.Common.{◌≡◌, ℕ, sym, subst, ⊎_elim, arith, rules}
use Rattle.std.proofs.lemmas.Bool.{cases_lt}
use Rattle.rows.specs.declared.refusal.Refusal.{Refusal}
use Rattle.rows.specs.declared.refusal.Fault.{Fault}
use Rattle.rows.specs.Numbers.{rank}
use Rattle.rows.specs.Refusals.{Turned}

pub rank_same : (r s : Refusal) → rank r ≡ rank s → r ≡ s
rank_same r s e = search rules

-- of any conditions, one fault at most is answered
pub turned_same : (Fits : Refusal → ℕ → Type 0) (f g : Fault) → Turned Fits f → Turned Fits g → f ≡ g
turned_same Fits f g s t =
    let ranks : rank f.refusal ≡ rank g.refusal =
    ⊎_elim (λ lt. absurd (t.least _ _ lt s.holds))
    (λ le. ⊎_elim (λ lt. absurd (s.least _ _ lt t.holds)) (λ ge. omega arith) (cases_lt (rank g.refusal) (rank f.refusal)))
    (cases_lt (rank f.refusal) (rank g.refusal)) in
    let same : f.refusal ≡ g.refusal = rank_same f.refusal g.refusal ranks in
    let places : f.place ≡ g.place =
    ⊎_elim (λ lt. absurd (t.first _ lt (subst (λ r. Fits r f.place) same s.holds)))
    (λ le. ⊎_elim (λ lt. absurd (s.first _ lt (subst (λ r. Fits r g.place) (sym same) t.holds))) (λ ge. omega arith) (cases_lt g.place f.place))
    (cases_lt f.place g.place) in
    λ i. record { refusal = same i; place = places i }
