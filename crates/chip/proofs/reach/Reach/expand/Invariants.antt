use Rattle.std.proofs.Common.{◌≡◌, ℕ, ◌<◌, true, MatchBool}
use Rattle.chip.specs.Tables.{flag_at, IsFound, size, Grown}
use Rattle.chip.proofs.reach.Reach.expand.Given as goal

abbrev pub invariant-loop-v : goal.invariant-loop-v
invariant-loop-v l = Grown l.couplings.rows l.d l.initial.self.steps l.self.steps
    × ((v : ℕ) → v < l.v → flag_at l.couplings.rows l.u v ≡ true → IsFound l.self.steps v)
    × MatchBool l.changed (size l.initial.self.steps < size l.self.steps) (l.self.steps ≡ l.initial.self.steps)
