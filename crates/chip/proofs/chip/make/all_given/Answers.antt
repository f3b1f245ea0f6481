use Rattle.std.proofs.Common.{◌≡◌, None, arith, get_or}
use Rattle.rows.specs.declared.refusal.Refusal.{Refusal}
use Rattle.std.proofs.lemmas.Result.{err_from_is_err_and}
use Rattle.chip.proofs.Making.{first_missing}
use Rattle.chip.proofs.chip.make.all_given.Goals as goal

pub returns-in_err-cycles : goal.returns-in_err-cycles
returns-in_err-cycles c =
    let p = err_from_is_err_and c.from_residual.result c.from_residual.ensures.1 in
    let n : get_or c.args.durations.now c.loop-kind.kind None ≡ None = grind arith in
    let f : c.in_err-cycles.field-0.0 ≡ record { refusal = Refusal.NoDuration; place = c.loop-kind.kind } = grind arith in
    rw (p.1, p.2) (first_missing c.args.durations.now c.loop-kind.cycles c.loop-kind.kind _ (omega arith) (omega arith) c.loop-kind.invariant.same n f)
