use Rattle.std.proofs.Common.{arith}
use Rattle.std.proofs.lemmas.Result.{err_from_is_err_and}
use Rattle.chip.proofs.Making.{chart_is, chart_inside, chart_symmetric, chart_irreflexive, links_inside, made_timed, made_9, made_10, made_accepted, made_distant, made_near}
use Rattle.chip.proofs.records.EvenRecords.build.Goals as goal

pub returns-in_err-durations : goal.returns-in_err-durations
returns-in_err-durations c =
    let d = c.in_ok-draft.draft in
    let p = err_from_is_err_and c.from_residual-in_err-durations.result c.from_residual-in_err-durations.ensures.1 in
    rw (p.1, p.2) (made_9 _ _ d.couplings.rows d.durations c.in_ok-draft.ensures c.args.self.even _ c.in_err-durations.ensures)

pub from-requires-clause-inside : goal.from-requires-clause-inside
from-requires-clause-inside c =
    let d = c.in_ok-draft.draft in links_inside _ _ d.couplings.rows d.durations c.in_ok-draft.ensures (omega arith)

pub returns-in-Some : goal.returns-in-Some
returns-in-Some c =
    let d = c.in_ok-draft.draft in
    let e = c.in-Some.ensures in
    rw c.at.ensures (made_10 _ _ d.couplings.rows d.durations c.in_ok-draft.ensures c.args.self.even c.in_ok-durations.durations c.in_ok-durations.ensures
    c.from.result.steps c.from.ensures c.in-Some.place e.0 e.1 e.2)

pub distances-distances-requires-clause-inside : goal.distances-distances-requires-clause-inside
distances-distances-requires-clause-inside c =
    let d = c.in_ok-draft.draft in links_inside _ _ d.couplings.rows d.durations c.in_ok-draft.ensures (omega arith)

pub invariant_of-result : goal.invariant_of-result
invariant_of-result c =
    let n = c.args.self.records.wires in
    let bs = c.args.self.records.bytes.now in
    let d = c.in_ok-draft.draft in
    let all = c.in_ok-draft.ensures in
    let cycles = c.in_ok-durations.durations in
    let given = c.in_ok-durations.ensures in
    record {
      some = omega arith;
      few = omega arith;
      inside = chart_inside n bs d.couplings.rows d.durations all cycles;
      symmetric = chart_symmetric n bs d.couplings.rows d.durations all cycles;
      irreflexive = chart_irreflexive n bs d.couplings.rows d.durations all cycles;
      timed = made_timed n bs d.couplings.rows d.durations all c.args.self.even cycles given;
      distant = made_distant n bs d.couplings.rows d.durations all c.args.self.even cycles given c.from.result.steps c.from.ensures
          c.in_default.ensures c.distances-distances.result c.distances-distances.ensures;
      near = made_near n bs d.couplings.rows d.durations all c.args.self.even cycles given c.from.result.steps c.from.ensures
          c.in_default.ensures c.distances-distances.result c.distances-distances.ensures;
    }

pub returns : goal.returns
returns c =
    let n = c.args.self.records.wires in
    let bs = c.args.self.records.bytes.now in
    let d = c.in_ok-draft.draft in
    let all = c.in_ok-draft.ensures in
    let cycles = c.in_ok-durations.durations in
    let given = c.in_ok-durations.ensures in (
      made_accepted n bs d.couplings.rows d.durations all c.args.self.even cycles given c.from.result.steps c.from.ensures c.in_default.ensures,
      chart_is n bs d.couplings.rows d.durations all c.args.self.even cycles given,
    )
