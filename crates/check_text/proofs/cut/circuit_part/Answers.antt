use Rattle.std.proofs.Common.{◌≡◌, ℕ, ◌<◌, length, refl, arith, rules}
use Rattle.check_text.proofs.Lines.{passed_more, cut_found}
use Rattle.check_text.proofs.cut.circuit_part.Goals as goal

pub returns-then-is_steps : goal.returns-then-is_steps
returns-then-is_steps c =
    let some : 0 < length c.loop-rest.rest.now = search rules in
    cut_found _ _ _ _ some c.loop-rest.invariant c.first_line.ensures.cut (c.if-is_steps.ensures.0 refl) _ refl

pub loop-rest-preserved : goal.loop-rest-preserved
loop-rest-preserved c =
    let some : 0 < length c.loop-rest.rest.now = search rules in
    passed_more _ _ _ _ some c.loop-rest.invariant c.first_line.ensures.cut
    (λ e. let wrong = c.if-is_steps.ensures.1 e in let z : ◌≡◌ {A = ℕ} 0 1 = cc in omega arith)
