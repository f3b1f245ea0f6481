use Rattle.std.proofs.Common.{◌^◌, ◌<◌, ◌≤◌, sym, mod-eq_of_lt, arith}
use native.Mathlib.Nat.{pow-le-pow_right}
use Rattle.cone.proofs.ConeRuleLocal.make.Goals as goal

pub returns-else-width-lt64 : goal.returns-else-width-lt64
returns-else-width-lt64 c =
    let p : 64 ≤ c.args.width = omega arith in
    let q : 2 ^ 64 ≤ 2 ^ c.args.width = pow-le-pow_right {n = 2} (omega arith) {i = 64} {j = c.args.width} p in
    let h : c.args.number < 2 ^ c.args.width = omega arith in
    sym (mod-eq_of_lt h)
