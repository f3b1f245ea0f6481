use Rattle.std.proofs.Common.{◌≡◌, ℕ, ◌<◌, true, MatchBool}
use Rattle.chip.specs.Tables.{flag_at, Found, IsFound, size, Grown}
use Rattle.chip.proofs.reach.Reach.round.Given as goal

abbrev pub invariant-loop-u : goal.invariant-loop-u
invariant-loop-u l = Grown l.couplings.rows l.d l.initial.self.steps l.self.steps
    × ((u v : ℕ) → u < l.u → v < 64 → Found l.initial.self.steps u l.d → flag_at l.couplings.rows u v ≡ true → IsFound l.self.steps v)
    × MatchBool l.changed (size l.initial.self.steps < size l.self.steps) (l.self.steps ≡ l.initial.self.steps)
