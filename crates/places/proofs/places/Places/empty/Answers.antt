use Rattle.std.proofs.Common.{length, ap, ◌∙◌, arith}
use Rattle.std.proofs.lemmas.List.FromFn.{length-range_with_len}
use Rattle.places.proofs.Placing.{both_counting}
use Rattle.places.proofs.places.Places.empty.Goals as goal

pub invariant_of-result : goal.invariant_of-result
invariant_of-result c =
    let few = c.wires-wires.ensures.range.1 in
    let t = both_counting c.wires-wires.result _ _ few c.counted-at.ensures c.counted-on.ensures in
    record {
      few = few;
      enough = omega arith;
      inside = t.inside;
      back = t.back;
      held = t.held;
      there = t.there;
      long = ap length c.counted-at.ensures ∙ length-range_with_len 0 64;
    }
