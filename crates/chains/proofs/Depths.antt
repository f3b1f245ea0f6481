-- The depth of a circuit from the counts of its wires.
use Rattle.std.proofs.Common.{ℕ, ◌<◌, ◌≤◌, List, length, arith}
use Rattle.rows.specs.Steps.{Gate}
use Rattle.depth.specs.Counts.{largest}
use Rattle.depth.specs.Longest.{Longest}
use Rattle.depth.proofs.Chained.{at_most_all}
use Rattle.chains.specs.Chained.{Deep}
use Rattle.chains.specs.Greatest.{Greatest}

-- the greatest of the lengths of longest chains
pub deep_from : (n : ℕ) (gs : List Gate) (f : ℕ → ℕ) (r : ℕ) → 1 ≤ n → length gs ≤ largest → ((i : ℕ) → i < n → Longest n gs i (f i)) → Greatest f n r → Deep n gs r
deep_from n gs f r some few longest g =
    let w = g.reached some in
    let top = longest w.0 w.1 in
    record {
      from = top.start;
      to = w.0;
      on_qubit = w.1;
      chain = top.chain;
      is_chain = top.ends;
      long = omega (arith, w.2, top.counted, at_most_all top.ends.within);
      no_longer = λ j i c lt ch. let l = longest i lt in
          omega (arith, g.at_most i lt, l.counted, l.no_longer j c ch, at_most_all l.ends.within);
    }
