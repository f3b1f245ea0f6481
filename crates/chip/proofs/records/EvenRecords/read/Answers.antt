use Rattle.std.proofs.Common.{◌≡◌, ℕ, ◌<◌, ◌/◌, Some, None, length, arith, get_or, [], subst}
use Rattle.std.proofs.lemmas.Result.{err_from_is_err_and}
use Rattle.rows.specs.declared.refusal.Refusal.{Refusal}
use Rattle.chip.specs.Charts.{records, record_number}
use Rattle.chip.specs.Entries.{four_in}
use Rattle.chip.specs.Tables.{Read}
use Rattle.chip.proofs.Reading.{records_length, record_chunk}
use Rattle.chip.proofs.Refusing.{turned_8}
use Rattle.chip.proofs.records.EvenRecords.read.Goals as goal

pub returns-in_err-ok_or : goal.returns-in_err-ok_or
returns-in_err-ok_or c =
    let p = err_from_is_err_and c.from_residual.result c.from_residual.ensures.1 in
    let n = c.args.self.records.wires in
    let bs = c.args.self.records.bytes.now in
    let i = c.loop-i.i in
    let l : i < length (records bs) = omega (arith, records_length bs, c.as_chunks.ensures.front_len) in
    let is : record_number bs i ≡ four_in (get_or c.as_chunks.result.0.now i []) = rw c.as_chunks.ensures.front (record_chunk bs (length bs / 4) i (omega arith) (omega (arith, records_length bs))) in
    let h = c.read.ensures bs i l is c.loop-i.invariant in
    let none : c.read.result ≡ None = grind arith in
    let f : c.in_err-ok_or.field-0.0 ≡ record { refusal = Refusal.BadRecord; place = i } = grind arith in
    rw (p.1, p.2, f) (turned_8 n bs c.args.self.even i l (rw none at h) c.loop-i.invariant.good)

pub loop-i-preserved : goal.loop-i-preserved
loop-i-preserved c =
    let bs = c.args.self.records.bytes.now in
    let i = c.loop-i.i in
    let l : i < length (records bs) = omega (arith, records_length bs, c.as_chunks.ensures.front_len) in
    let is : record_number bs i ≡ four_in (get_or c.as_chunks.result.0.now i []) = rw c.as_chunks.ensures.front (record_chunk bs (length bs / 4) i (omega arith) (omega (arith, records_length bs))) in
    let h = c.read.ensures bs i l is c.loop-i.invariant in
    let some : c.read.result ≡ Some c.in_ok-ok_or.field-0 = grind arith in
    rw some at h

pub returns : goal.returns
returns c =
    let bs = c.args.self.records.bytes.now in
    let e : c.loop-i.i ≡ length (records bs) = omega (arith, records_length bs, c.as_chunks.ensures.front_len) in
    subst (λ (m : ℕ). Read c.args.self.records.wires bs m c.loop-i.draft.couplings.rows c.loop-i.draft.durations) e c.loop-i.invariant
