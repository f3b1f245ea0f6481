use Rattle.std.proofs.Common.{◌≡◌, rules}
use Rattle.std.proofs.lemmas.List.FromFn.{fill_by_all}
use Rattle.cells.proofs.Arrays.{made_each}
use Rattle.machine_cases.proofs.read_wires.Goals as goal

pub returns : goal.returns
returns g c =
    let at = g.M.Machine.acts.reads (g.M.Machine.means c.args.machine.now) in
    fill_by_all at c.from_fn.result g.row.N 0 c.from_fn.ensures.items.long
    (λ w h. made_each _ _ (λ i y. y ≡ at i) (λ p q i y e call. let m = call.met in (search rules, search rules)) c.from_fn.result g.row.N c.from_fn.ensures.items w 0 h)
