use Rattle.std.proofs.Common.{◌≡◌, ℕ, ◌++◌, string_bytes, ap, ◌∙◌, rules}
use Rattle.chip.specs.Chips.{chart_of}
use Rattle.chip_text.specs.Report.{wires_line, couplings, durations, distances, diameter, diameter_line, degrees}
use Rattle.chip_text.proofs.Steps.{text_of}
use Rattle.chip_text.proofs.report.describe.Goals as goal

pub returns : goal.returns
returns c far h =
    let k = chart_of c.args.chip.now in
    let w : string_bytes c.writeln.new.self ≡ string_bytes c.new-out.result ++ wires_line c.wires-wires.result = search rules in
    let d : string_bytes c.writeln-2.new.self ≡ string_bytes c.distances.new.out ++ diameter_line c.diameter-most.result = search rules in
    text_of (string_bytes c.new-out.result) (string_bytes c.writeln.new.self) (string_bytes c.couplings.new.out) (string_bytes c.durations.new.out)
    (string_bytes c.distances.new.out) (string_bytes c.writeln-2.new.self) (string_bytes c.degrees.new.out)
    (wires_line k.wires) (couplings k) (durations k) (distances k.wires far) (diameter_line (diameter k.wires far)) (degrees k)
    c.new-out.ensures.bytes
    (w ∙ ap (λ (n : ℕ). string_bytes c.new-out.result ++ wires_line n) c.wires-wires.ensures.count) c.in_ok-couplings.ensures c.in_ok-durations.ensures (c.in_ok-distances.ensures far h)
    (d ∙ ap (λ (n : ℕ). string_bytes c.distances.new.out ++ diameter_line n) (c.diameter-most.ensures far h)) c.in_ok-degrees.ensures
