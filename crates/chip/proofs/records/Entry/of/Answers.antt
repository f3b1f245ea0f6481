use Rattle.std.proofs.Common.{rules, tests, ◌≡◌, ◌≤◌, get_or, sym, ◌∙◌, arith}
use Rattle.rows.specs.StepKinds.{step_code}
use Rattle.rows.proofs.Results.{no_value}
use Rattle.rows.proofs.StepKinds.{outside, code_bounds}
use Rattle.chip.specs.Entries.{four_in}
use Rattle.chip.proofs.Reading.{no_lasting}
use Rattle.chip.proofs.records.Entry.of.Goals as goal

-- a kind that no code has lasts no time
pub returns-in_err-kind-in-2 : goal.returns-in_err-kind-in-2
returns-in_err-kind-in-2 c = rw c.from_residual.ensures
    (no_value c.try_from.result _ _ _ (sym c.ok.ensures.value ∙ c.in_err-kind-in-2.was) c.try_from.ensures (λ e none.
    let form : get_or c.args.quad.now 0 0 ≡ 2 = search rules in
    no_lasting c.args.wires (four_in c.args.quad.now) form (outside _ none.0)))

pub returns-in_ok-kind-in-2 : goal.returns-in_ok-kind-in-2
returns-in_ok-kind-in-2 c =
    let kind = c.in_ok-kind-in-2.kind in
    let b = code_bounds kind in
    let e : step_code kind ≡ get_or c.args.quad.now 1 0 = search rules in
    let low : 1 ≤ get_or c.args.quad.now 1 0 = omega (arith, b, e) in
    let high : get_or c.args.quad.now 1 0 ≤ 12 = omega (arith, b, e) in
    search (rules, tests)
