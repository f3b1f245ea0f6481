use Rattle.std.proofs.Common.{◌≡◌, ℕ, ◌<◌, get_or, ap, sym, subst, min, false, ◌&&◌, ◌∙◌, rules}
use Rattle.std.proofs.Math.Bool.{and-false}
use Rattle.cells.specs.Tables.{tabled}
use Rattle.cells.proofs.Arrays.{made_each}
use Rattle.cells.proofs.Entries.{tabled_from}
use Rattle.cells.proofs.table.Table.fresh.Goals as goal

pub returns : goal.returns
returns g c =
    let n = c.new-width.result.n in
    let start = g.L.Tabled.fresh n in
    let begun = g.met.L.Tabled.begun n in
    let cell : (w : ℕ) → w < 64 → get_or c.from_fn-cells.result w g.L.Local.blank ≡ start.cell w =
    (λ w h. made_each _ _ (λ i y. y ≡ start.cell i) (λ p q i y e call. let m = call.met in (search rules, search rules)) c.from_fn-cells.result 64 c.from_fn-cells.ensures.items w g.L.Local.blank h) in
    let made : tabled g.L.Local.blank n c.from_fn-cells.result (g.L.Tabled.signed && false) ≡ start =
    tabled_from g.L.Local.blank start.cell n c.from_fn-cells.result (g.L.Tabled.signed && false) c.new-width.result.ok c.from_fn-cells.ensures.items.long cell begun.past
    ∙ (λ i. record { width = sym begun.wide i; cell = start.cell; minus = (and-false g.L.Tabled.signed ∙ sym begun.plus) i }) in
    let all : tabled g.L.Local.blank n c.from_fn-cells.result (g.L.Tabled.signed && false) ≡ g.L.Tabled.fresh (min c.args.width 64) = made ∙ ap g.L.Tabled.fresh c.new-width.ensures in
    record {
      made = all;
      promise = c.promise.ensures.always;
      fresh = subst (g.L.Tabled.FreshPromise (min c.args.width 64)) (sym all) (subst (λ (k : ℕ). g.L.Tabled.FreshPromise k (g.L.Tabled.fresh k)) c.new-width.ensures c.promise.ensures.begun);
    }
