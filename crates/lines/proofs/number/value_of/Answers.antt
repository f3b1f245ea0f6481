use Rattle.std.proofs.Common.{◌+◌, ap, ◌∙◌, arith}
use Rattle.std.specs.Str.Parse.{digits_value}
use Rattle.std.proofs.lemmas.List.{take_all}
use Rattle.std.proofs.ByRecursion.{All-get_or}
use Rattle.lines.specs.Number.{Digit}
use Rattle.lines.proofs.Decimal.{value_front, value_step}
use Rattle.lines.proofs.number.value_of.Goals as goal

pub overflow_sub-v : goal.overflow_sub-v
overflow_sub-v c = omega (arith, All-get_or Digit c.args.digits.now c.loop-b.b-index 0 c.loop-b-test.true c.requires)

pub returns-then-v-limit : goal.returns-then-v-limit
returns-then-v-limit c =
    let next = value_step c.args.digits.now c.loop-b.b-index c.loop-b.v c.requires c.loop-b-test.true c.loop-b.invariant.0 in
    omega (arith, c.if-v-limit.true, next, value_front c.args.digits.now (c.loop-b.b-index + 1))

pub loop-b-preserved : goal.loop-b-preserved
loop-b-preserved c =
    (value_step c.args.digits.now c.loop-b.b-index c.loop-b.v c.requires c.loop-b-test.true c.loop-b.invariant.0, c.if-v-limit.false)

pub returns : goal.returns
returns c =
    (c.loop-b.invariant.1, c.loop-b.invariant.0 ∙ ap (digits_value 10) (take_all c.loop-b.b-index c.args.digits.now c.loop-b-test.false))
