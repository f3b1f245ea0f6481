use Rattle.std.proofs.Common.{◌≡◌, ◌+◌, min, subst}
use Rattle.std.proofs.lemmas.Result.{err_from_is_err_and}
use Rattle.text.specs.Reading.{lines, statements, statements_of, FirstRefused}
use Rattle.text.specs.Steps.{Headed, NotHeaded}
use Rattle.text.proofs.Whole.{not_headed, refused_later, refused_as, from_start}
use Rattle.text.proofs.reader.read_circuit.Goals as goal
use Rattle.text.proofs.reader.read_circuit.Goals.{After-new-lexer}

-- all statements of the text come first
start : (c : After-new-lexer) → statements (c.new-lexer.result.passed + 1) (lines c.new-lexer.result.rest.now) ≡ statements_of c.args.text.now
start c = from_start _ _ _ c.new-lexer.ensures.0 c.new-lexer.ensures.1

pub returns-in_err-qubits : goal.returns-in_err-qubits
returns-in_err-qubits c =
    let p = err_from_is_err_and c.from_residual.result c.from_residual.ensures.1 in
    let f = c.in_err-qubits.field-0.0 in
    rw (p.1, p.2) (refused_as c.args.text.now c.args.lent f (not_headed (min 1024 c.args.lent) (statements_of c.args.text.now) f (subst (λ ss. NotHeaded ss f) (start (goal.at.returns-in_err-qubits c).After-new-lexer) c.in_err-qubits.ensures)))

pub returns-in_err-gates : goal.returns-in_err-gates
returns-in_err-gates c =
    let p = err_from_is_err_and c.from_residual-in_err-gates.result c.from_residual-in_err-gates.ensures.1 in
    let f = c.in_err-gates.field-0.0 in
    let rest = statements (c.read_heading.new.lexer.passed + 1) (lines c.read_heading.new.lexer.rest.now) in
    let n = c.in_ok-qubits.qubits in
    let headed = subst (λ ss. Headed ss n rest) (start (goal.at.returns-in_err-gates c).After-new-lexer) c.in_ok-qubits.ensures in
    let later = subst (λ k. FirstRefused n k rest f) c.room_for.ensures c.in_err-gates.ensures in
    rw (p.1, p.2) (refused_as c.args.text.now c.args.lent f (refused_later (min 1024 c.args.lent) (statements_of c.args.text.now) rest n f headed later))
