use Rattle.text.specs.Lexing.{left}
use Rattle.text.proofs.Reached.{Reached}
use Rattle.text.proofs.reader.read_gates.Given as goal

abbrev pub invariant-loop-word : goal.invariant-loop-word
invariant-loop-word l = Reached l.qubits l.room (left l.initial.word-iterator) (left l.word-iterator) l.count l.initial.table l.table
