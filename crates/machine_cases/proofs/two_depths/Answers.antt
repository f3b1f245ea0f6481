use Rattle.std.proofs.Common.{◌≡◌, ℕ, ap, ◌∙◌}
use Rattle.rows.specs.declared.kind.Kind.{Kind}
use Rattle.rows.specs.Steps.{one, two}
use Rattle.machine.specs.Local.{Cells, local}
use Rattle.depth.specs.Means.{depth_means}
use Rattle.depth.specs.Counts.{depth_rule, zeros}
use Rattle.machine_cases.specs.Cases.{readings}
use Rattle.machine_cases.proofs.two_depths.Goals as goal

pub returns : goal.returns
returns c =
    let after : depth_means c.gate-2.new.self ≡ (local depth_rule).gated (two Kind.Cnot 0 0 1) ((local depth_rule).gated (one Kind.H 0 0) (zeros 2)) =
    c.gate-2.ensures ∙ ap ((local depth_rule).gated (two Kind.Cnot 0 0 1)) (c.gate.ensures ∙ ap ((local depth_rule).gated (one Kind.H 0 0)) c.fresh-d.ensures.made) in
    c.read_wires.ensures ∙ ap (λ (u : Cells ℕ). readings (local depth_rule) 2 u) after
