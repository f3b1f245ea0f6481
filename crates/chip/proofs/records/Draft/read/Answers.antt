use Rattle.std.proofs.Common.{◌≡◌, rules, ap, ◌∙◌, arith, sym}
use Rattle.rows.specs.StepKinds.{step_code}
use Rattle.chip.specs.Charts.{Four, couples, lasts, amount}
use Rattle.chip.proofs.Reading.{read_coupling, read_duration}
use Rattle.chip.proofs.records.Draft.read.Goals as goal

pub returns-in-Coupling : goal.returns-in-Coupling
returns-in-Coupling c = λ bs i l is before.
    let e = rw c.in-Coupling.is at c.in_ok-a.ensures in
    let s = c.args.self.now in
    read_coupling c.args.wires bs i s.couplings.rows s.durations before l (ap (couples c.args.wires) is ∙ e.0)
    c.in-Coupling.a.0 c.in-Coupling.b.0 (ap (λ (r : Four). r.second) is ∙ e.1) (ap (λ (r : Four). r.third) is ∙ e.2) c.couple.new.self.rows c.couple.ensures

pub returns-else-is_some : goal.returns-else-is_some
returns-else-is_some c = λ bs i l is before.
    let e = rw c.in-Duration.is at c.in_ok-a.ensures in
    let s = c.args.self.now in
    let index : step_code c.in-Duration.kind ≡ c.from-index.result = search rules in
    read_duration c.args.wires bs i s.couplings.rows s.durations before l (ap lasts is ∙ e.0) c.from-index.result c.in-Duration.cycles
    (ap (λ (r : Four). r.second) is ∙ e.1 ∙ index) (ap amount is ∙ e.2) (omega arith) (sym c.is_some.ensures ∙ c.if-is_some.false)
