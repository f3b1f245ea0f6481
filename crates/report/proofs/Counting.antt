-- Gates counted by their rows.
use Rattle.std.proofs.Common.{◌≡◌, ℕ, ◌+◌, Bool, cond, List, [], ◌∷◌, length, get_or, drop, Some, None, count_by, sym, refl, ap, ◌∙◌, arith}
use Rattle.std.proofs.lemmas.List.{length-map}
use Rattle.std.proofs.lemmas.List.Sums.{sum_by-cons}
use Rattle.rows.specs.declared.row.Gate.{Gate as GateRow}
use Rattle.rows.specs.Steps.{Gate, gate_of}
use Rattle.chains.specs.Chained.{Decodes}
use Rattle.report.specs.Features.{marked, counted}

pub decoded_count : (p : Gate → Bool) (n : ℕ) (rows : List GateRow) (gs : List Gate) → Decodes n rows gs → count_by (λ row. marked p (gate_of n row)) rows ≡ counted p gs
decoded_count p n [] [] e = refl
decoded_count p n [] (g ∷ gs) e = absurd (omega (arith, ap length e))
decoded_count p n (r ∷ rs) [] e = absurd (omega (arith, ap length e))
decoded_count p n (r ∷ rs) (g ∷ gs) e =
    sum_by-cons (λ row. cond (marked p (gate_of n row)) 1 0) r rs
    ∙ (λ i. cond (marked p (ap (λ l. get_or l 0 None) e i)) 1 0 + decoded_count p n rs gs (ap (drop 1) e) i)
    ∙ sym (sum_by-cons (λ h. cond (p h) 1 0) g gs)

pub decoded_length : (n : ℕ) (rows : List GateRow) (gs : List Gate) → Decodes n rows gs → length rows ≡ length gs
decoded_length n rows gs d = sym (length-map rows (gate_of n)) ∙ ap length d ∙ length-map gs (λ g. Some g)
