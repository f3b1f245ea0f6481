use Rattle.std.proofs.Common.{◌≡◌, codes, Some, ◌++◌, subst}
use Rattle.std.proofs.lemmas.Bool.Decides.{Decides-eqb}
use Rattle.std.proofs.lemmas.Slice.Eq.{strip_prefix_is}
use Rattle.lines.specs.declared.token.Token.{Token}
use Rattle.lines.specs.Tokens.{Letter, Longest, Fronts}
use Rattle.step_text.proofs.Words.{no_word, word_and_space}
use Rattle.step_text.proofs.name.step_name.Goals as goal
use Rattle.step_text.proofs.name.step_name.Goals.{In-Name, In_ok-text}

-- what comes after the first space
cut : (c : In_ok-text) → c.args.s.now ≡ codes " " ++ c.in_ok-text.text.now
cut c = strip_prefix_is Decides-eqb c.args.s.now (codes " ") (Some c.in_ok-text.text) c.in_ok-text.ensures.cases

-- the token is the longest run of letters
run : (c : In-Name) → Longest Letter c.in_ok-text.text.now c.in-Name.word.now c.in_ok-token.spaced.now
run c = subst (λ (t : Token). Fronts c.in_ok-text.text.now t c.in_ok-token.spaced.now) c.in-Name.is c.in_ok-token.ensures

pub returns-in_default : goal.returns-in_default
returns-in_default c κ rest e = no_word _ _ c.in_ok-token.token _ κ rest (cut (goal.at.returns-in_default c).In_ok-text) c.in_ok-token.ensures e c.in_default.not-Name

pub returns-in_err-kind : goal.returns-in_err-kind
returns-in_err-kind c = rw c.from_residual-in_err-kind.ensures (λ κ rest e.
    c.in_err-kind.ensures κ (word_and_space _ _ _ _ κ rest (cut (goal.at.returns-in_err-kind c).In_ok-text) (run (goal.at.returns-in_err-kind c).In-Name) e).0)
