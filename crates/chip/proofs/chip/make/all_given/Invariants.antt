use Rattle.std.proofs.Common.{◌≡◌, ℕ, ◌<◌, ◌≤◌, Some, None, length, get_or}
use Rattle.chip.proofs.chip.make.all_given.Given as goal

abbrev pub invariant-loop-kind : goal.invariant-loop-kind
invariant-loop-kind l = record {
  long : length l.cycles ≡ 13;
  none : get_or l.cycles 0 0 ≡ 0;
  same : (q : ℕ) → 1 ≤ q → q < l.kind → get_or l.durations q None ≡ Some (get_or l.cycles q 0);
}
