use Rattle.std.proofs.Common.{◌≡◌, ℕ, ◌+◌, true, rules, tests}
use Rattle.std.proofs.lemmas.Iterator.{first_from_Range}
use Rattle.std.specs.Option.{option_map}
use Rattle.chip.specs.Tables.{flag_at, number_at}
use Rattle.chip.specs.Chips.{chart_of}
use Rattle.chip.proofs.Chips.{wire, off_chip, nearest}
use Rattle.chip.proofs.chip.Chip.nearer.Goals as goal

pub returns-in_err-here : goal.returns-in_err-here
returns-in_err-here c =
    let s = c.args.self.now in
    rw c.from_residual.ensures (off_chip (chart_of s) s.inside c.args.a.0 c.args.b.0 c.in_err-here.ensures)

pub returns : goal.returns
returns c =
    let s = c.args.self.now in
    let a = c.args.a.0 in
    let b = c.args.b.0 in
    let here = c.in_ok-here.here in
    let e = c.in_ok-here.ensures in
    let Yes : ℕ → Type 0 = λ w. (flag_at s.couplings.rows a w ≡ true) × (number_at s.distances w b + 1 ≡ here) in
    let No : ℕ → Type 0 = λ w. (flag_at s.couplings.rows a w ≡ true) → (number_at s.distances w b + 1 ≡ here) → ⊥ in
    let m : c.map.result ≡ option_map wire c.find.result = search rules in
    rw m (nearest s a b e.0.0 e.0.1 here e.1 c.find.result
    (first_from_Range _ _ _ c.find.result Yes No c.find.ensures.ran (λ x q k. search (rules, tests)) (λ x q k. search (rules, tests))))
