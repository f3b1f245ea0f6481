use Rattle.std.proofs.Common.{◌≡◌, ℕ, ap, ◌∙◌}
use Rattle.rows.specs.declared.kind.Kind.{Kind}
use Rattle.rows.specs.Steps.{two}
use Rattle.machine.specs.Local.{Cells, local}
use Rattle.cone.specs.Means.{cone_means}
use Rattle.cone.specs.Sets.{cone_rule, own_wires}
use Rattle.machine_cases.specs.Cases.{readings}
use Rattle.machine_cases.proofs.three_cones.Goals as goal

pub returns : goal.returns
returns c =
    let after : cone_means c.gate-2.new.self ≡ (local cone_rule).gated (two Kind.Cnot 0 1 2) ((local cone_rule).gated (two Kind.Cnot 0 0 1) (own_wires 3)) =
    c.gate-2.ensures ∙ ap ((local cone_rule).gated (two Kind.Cnot 0 1 2)) (c.gate.ensures ∙ ap ((local cone_rule).gated (two Kind.Cnot 0 0 1)) c.fresh-c.ensures.made) in
    c.read_wires.ensures ∙ ap (λ (u : Cells ℕ). readings (local cone_rule) 3 u) after
