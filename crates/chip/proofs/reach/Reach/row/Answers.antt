use Rattle.std.proofs.Common.{◌≡◌, ℕ, None, Option, get_or, ap, ◌∙◌, arith, rules}
use Rattle.std.specs.Option.{unwrap_or}
use Rattle.chip.proofs.Filled.{filled}
use Rattle.chip.proofs.Reaching.{found_below}
use Rattle.chip.proofs.reach.Reach.row.Goals as goal

pub returns : goal.returns
returns c = λ v d h.
    let steps = c.args.self.now.steps in
    filled _ _ (λ (i y : ℕ). y ≡ unwrap_or (get_or steps i None) 0) (λ i y q k. search rules) c.from_fn.result 64 c.from_fn.ensures.items v 0
    (omega (arith, found_below steps v d h))
    ∙ ap (λ (o : Option ℕ). unwrap_or o 0) h
