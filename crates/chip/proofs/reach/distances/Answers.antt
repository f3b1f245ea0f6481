use Rattle.std.proofs.Common.{ℕ, List, [], ◌<◌, arith, rules}
use Rattle.chip.specs.Tables.{Distances}
use Rattle.chip.proofs.Filled.{filled}
use Rattle.chip.proofs.reach.distances.Goals as goal

pub returns : goal.returns
returns c = λ a l.
    let t = c.args.couplings.now.rows in
    let n = c.args.n in
    filled _ _ (λ (i : ℕ) (y : List ℕ). i < n → Distances t i y) (λ i y q k. search rules) c.from_fn.result 64 c.from_fn.ensures.items a [] (omega arith) l
