-- What the lexer gives of a text.
use Rattle.std.specs.Prelude.{◌≡◌, ℕ, ◌+◌, ◌<◌, List, [], ◌∷◌, length, Some, None, Option}
use Rattle.lines.specs.Tokens.{Fronts}
use Rattle.text.specs.declared.lexer.Lexer.{Lexer}
use Rattle.text.specs.declared.lexer.Word.{Word}
use Rattle.text.specs.Reading.{Statement, lines, statements}

-- the statements that a lexer has left
abbrev pub left : Lexer → List Statement
left s = statements (s.passed + 1) (lines s.rest.now)

-- the statement of a word
abbrev pub written : Word → Statement
written w = record { number = w.line; bytes = w.bytes.now }

-- from s the lexer gives its next statement with its first token, and goes on at t; or nothing, where no statement is left, and then all of the text is passed
abbrev pub Lexes : Lexer → Option Word → Lexer → Type 0
Lexes s None t = (left s ≡ []) × (t.rest.now ≡ [])
Lexes s (Some w) t = (left s ≡ written w ∷ left t) × ((after : List ℕ) × Fronts w.bytes.now w.token after) × (length t.rest.now < length s.rest.now)
