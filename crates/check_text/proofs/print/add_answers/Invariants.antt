use Rattle.std.proofs.Common.{◌≡◌, ◌++◌, take, string_bytes}
use Rattle.std.specs.List.{flat_map}
use Rattle.check_text.specs.Answers.{trial_line}
use Rattle.check_text.proofs.print.add_answers.Given as goal

abbrev pub invariant-loop-trial : goal.invariant-loop-trial
invariant-loop-trial l = string_bytes l.out ≡ string_bytes l.initial.out ++ flat_map trial_line (take l.trial-index l.trials)
