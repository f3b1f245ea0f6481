use Rattle.std.proofs.Common.{◌≡◌, ℕ, ◌/◌, ◌%◌, ◌^◌, eqb, sym, ap, ◌∙◌, subst, arith}
use Rattle.std.specs.List.{range_with_len, count_by}
use Rattle.std.proofs.lemmas.Bool.{eqb-true, eq-eqb, false≢true}
use Rattle.chains.specs.Chained.{Counts, Source}
use Rattle.chains.proofs.Counting.{counts_by}
use Rattle.chains.proofs.count.count_sources.Goals as goal

pub returns : goal.returns
returns c gs q s few =
    let n = c.args.n in
    let all : c.min.result ≡ n = omega (arith, c.min.ensures) in
    let bit = λ (j : ℕ). c.args.set / 2 ^ j % 2 in
    let counted : c.count_wires.result ≡ count_by (λ j. eqb (bit j) 1) (range_with_len 0 n) = c.count_wires.ensures ∙ ap (λ (k : ℕ). count_by (λ j. eqb (bit j) 1) (range_with_len 0 k)) all in
    subst (Counts (Source n gs q) n) (sym counted)
    (counts_by (Source n gs q) (λ j. eqb (bit j) 1) (λ j e. (s.holds j).0 (eqb-true (bit j) 1 e)) (λ j e h. false≢true (sym e ∙ eq-eqb (bit j) 1 ((s.holds j).1 h))) n)
