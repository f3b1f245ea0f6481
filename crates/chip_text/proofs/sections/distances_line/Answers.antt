use Rattle.std.proofs.Common.{◌≡◌, ℕ, ◌++◌, List, string_bytes, codes, decimal, ap, ◌∙◌, arith, subst}
use Rattle.std.proofs.lemmas.Result.{on_ok_weaker}
use Rattle.chip.specs.Chips.{chart_of}
use Rattle.chip_text.specs.Report.{each}
use Rattle.chip_text.proofs.Steps.{each_more, line_of, within_is}
use Rattle.chip_text.proofs.sections.distances_line.Goals as goal

pub loop-b-preserved : goal.loop-b-preserved
loop-b-preserved c far h =
    let a = c.args.a in
    let b = c.loop-b.b in
    let d : c.distance-far.result ≡ far a b = c.distance-far.ensures far h ∙ within_is (chart_of c.args.chip.now).wires far a b (omega arith) (omega arith) in
    each_more (λ b. codes " " ++ decimal (far a b)) b (string_bytes c.write.new.self) (string_bytes c.loop-b.out) _ (c.loop-b.invariant far h)
    (c.in_ok-write-2.ensures.bytes ∙ ap (λ (k : ℕ). string_bytes c.loop-b.out ++ (codes " " ++ decimal k)) d)

pub returns : goal.returns
returns c = on_ok_weaker c.writeln.result
    (λ e far h.
    let n = (chart_of c.args.chip.now).wires in
    let same : c.loop-b.b ≡ n = omega arith in
    let f : ℕ → List ℕ = λ b. codes " " ++ decimal (far c.args.a b) in
    line_of (string_bytes c.args.out.now) (string_bytes c.write.new.self) (string_bytes c.loop-b.out) (string_bytes c.writeln.new.self)
    (codes "distances") (each n f) (codes "\n")
    c.in_ok-write.ensures.bytes
    (subst (λ (m : ℕ). string_bytes c.loop-b.out ≡ string_bytes c.write.new.self ++ each m f) same (c.loop-b.invariant far h))
    e)
    c.writeln.ensures.bytes
