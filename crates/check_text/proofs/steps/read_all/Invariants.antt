use Rattle.std.proofs.Common.{vec_items}
use Rattle.text.specs.Lexing.{left}
use Rattle.check_text.proofs.Reading.{Reached}
use Rattle.check_text.proofs.steps.read_all.Given as goal

abbrev pub invariant-loop-word : goal.invariant-loop-word
invariant-loop-word l = Reached (left l.initial.word-iterator) (left l.word-iterator) (vec_items l.trials)
