use Rattle.std.proofs.Common.{◌≡◌, min, ◌↔◌, sym, subst, arith}
use Rattle.machine.specs.Local.{local}
use Rattle.cone.specs.Sets.{cone_rule, In}
use Rattle.cone.specs.Causal.{Causal}
use Rattle.cone.specs.Means.{cone_means}
use Rattle.chains.specs.Chained.{Source}
use Rattle.chains.proofs.sources.tell.sets_of.Goals as goal

pub returns : goal.returns
returns c gs d few =
    let n = c.args.qubits in
    let same : min n 64 ≡ n = omega arith in
    let causal = subst (λ k. Causal k (cone_means c.fresh-cone.result)) same c.fresh-cone.ensures.fresh in
    record { sets = λ q lt. record { holds = λ j. subst (λ u. In j ((local cone_rule).reads u q) ↔ Source n gs q j) (sym (c.play.ensures n gs d)) (causal gs j q lt) } }
