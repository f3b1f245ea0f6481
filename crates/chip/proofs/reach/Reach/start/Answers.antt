use Rattle.std.proofs.Common.{ℕ, [], None, Option, replicate, arith}
use Rattle.chip.proofs.Reaching.{first_level, first_size, blank_row}
use Rattle.chip.proofs.reach.Reach.start.Goals as goal

pub returns-clause-level : goal.returns-clause-level
returns-clause-level c = λ table. first_level table c.args.a (replicate 64 None) (omega arith) (λ v. blank_row {A = Option ℕ} 64 v None)

pub returns-clause-one : goal.returns-clause-one
returns-clause-one c = first_size [] c.args.a (replicate 64 None) (omega arith) (λ v. blank_row {A = Option ℕ} 64 v None)
