use Rattle.std.proofs.Common.{◌≡◌, ℕ, ◌^◌, ◌<◌, List, length, get_or, decimal, sym, ap, ◌∙◌, subst, arith}
use Rattle.std.specs.Str.Parse.{digits_value}
use Rattle.lines.specs.declared.token.Token.{Token}
use Rattle.lines.specs.Number.{Digit}
use Rattle.lines.specs.Tokens.{Fronts, Longest}
use Rattle.lines.proofs.Runs.{longest_same, longest_some}
use Rattle.lines.specs.Number.{Begins}
use Rattle.lines.proofs.Decimal.{begins, begins_run, number_lead, number_value, number_token}
use Rattle.lines.proofs.number.number_up_to.Goals as goal
use Rattle.lines.proofs.number.number_up_to.Goals.{In-Number}

-- the token is the longest run of digits
run : (c : In-Number) → Longest Digit c.args.s.now c.in-Number.digits.now c.in_ok-token.rest.now
run c = subst (λ (t : Token). Fronts c.args.s.now t c.in_ok-token.rest.now) c.in-Number.is c.in_ok-token.ensures

-- and it is what a number at the front is written as
same : (c : In-Number) (v : ℕ) (rest : List ℕ) → Begins c.args.limit c.args.s.now v rest → (c.in-Number.digits.now ≡ decimal v) × (v < 2 ^ 64)
same c v rest b =
    ((longest_same Digit _ _ _ _ _ (run c) (begins_run c.args.limit _ v rest (omega arith) b)).0, omega (arith, b.small))

pub returns-in_err-token : goal.returns-in_err-token
returns-in_err-token c = rw c.from_residual.ensures (λ v rest b.
    omega (arith, ap length c.in_err-token.ensures, longest_some Digit _ _ _ (begins_run c.args.limit _ v rest (omega arith) b)))

pub returns-in_default : goal.returns-in_default
returns-in_default c v rest b =
    number_token _ c.in_ok-token.token _ _ rest c.in_ok-token.ensures (begins_run c.args.limit _ v rest (omega arith) b) c.in_default.not-Number

pub returns-then-has_leading_zero : goal.returns-then-has_leading_zero
returns-then-has_leading_zero c v rest b =
    let zero_first = c.if-has_leading_zero.ensures in
    let is = same (goal.at.returns-then-has_leading_zero c).In-Number v rest b in
    omega (arith, ap length is.0, zero_first.0, number_lead v is.1 (sym (ap (λ (l : List ℕ). get_or l 0 0) is.0) ∙ zero_first.1))

pub returns-in_err-v : goal.returns-in_err-v
returns-in_err-v c = rw c.from_residual-in_err-v.ensures (λ v rest b.
    let is = same (goal.at.returns-in_err-v c).In-Number v rest b in
    omega (arith, c.in_err-v.ensures, ap (digits_value 10) is.0, number_value v is.1, b.small))

pub returns : goal.returns
returns c =
    let l = run (goal.at.returns c).In-Number in
    let v = c.in_ok-v.ensures in
    let lead : get_or c.in-Number.digits.now 0 0 ≡ 48 → length c.in-Number.digits.now ≡ 1 = λ e. omega (arith, c.if-has_leading_zero.ensures e, l.some) in
    subst (λ (n : ℕ). Begins c.args.limit c.args.s.now n c.in_ok-token.rest.now) (sym v.1)
    (begins c.args.limit _ _ _ (omega arith) l (omega (arith, v.0, v.1)) lead)
