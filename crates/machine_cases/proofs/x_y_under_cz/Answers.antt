use Rattle.std.proofs.Common.{◌≡◌, false, [], ◌∷◌, ap, ◌∙◌}
use Rattle.rows.specs.declared.kind.Kind.{Kind}
use Rattle.rows.specs.Steps.{two}
use Rattle.machine.specs.Local.{local}
use Rattle.cells.specs.Tables.{made_of}
use Rattle.pauli.specs.Means.{pauli_means}
use Rattle.pauli.specs.Letters.{pauli_rule, letter_of}
use Rattle.machine_cases.proofs.Products.{the_product}
use Rattle.machine_cases.proofs.x_y_under_cz.Goals as goal

pub returns : goal.returns
returns c =
    let after : pauli_means c.gate.new.self ≡ (local pauli_rule).gated (two Kind.Cz 0 0 1) (made_of letter_of 2 (1 ∷ 3 ∷ []) false) =
    c.gate.ensures ∙ ap ((local pauli_rule).gated (two Kind.Cz 0 0 1)) c.new-p.ensures.made in
    (λ i. record { letters = c.read_wires.ensures i; minus = c.is_minus.ensures i }) ∙ ap the_product after
