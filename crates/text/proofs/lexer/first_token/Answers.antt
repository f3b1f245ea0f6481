use Rattle.text.proofs.Statements.{token_unskipped}
use Rattle.text.proofs.lexer.first_token.Goals as goal

pub returns : goal.returns
returns c =
    (token_unskipped _ c.in_ok-token.token _ c.in_ok-token.ensures c.in_default.not-Comment, (_, c.in_ok-token.ensures))
