use Rattle.std.proofs.Common.{◌≡◌, min, sym, subst, arith}
use Rattle.machine.specs.Local.{local}
use Rattle.depth.specs.Counts.{depth_rule}
use Rattle.depth.specs.Longest.{Longest, CountsChains}
use Rattle.depth.specs.Means.{depth_means}
use Rattle.chains.proofs.deep.counts_of.Goals as goal

pub returns : goal.returns
returns c gs d few =
    let n = c.args.qubits in
    let same : min n 64 ≡ n = omega arith in
    let counts = subst (λ k. CountsChains k (depth_means c.fresh-machine.result)) same c.fresh-machine.ensures.fresh in
    record { longest = λ i lt. subst (λ u. Longest n gs i ((local depth_rule).reads u i)) (sym (c.play.ensures n gs d)) (counts gs i lt) }
