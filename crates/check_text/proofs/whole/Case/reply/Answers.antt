use Rattle.check_text.proofs.Judging.{text_so}
use Rattle.check_text.proofs.whole.Case.reply.Goals as goal

pub returns-in_ok-format-in-Err : goal.returns-in_ok-format-in-Err
returns-in_ok-format-in-Err c =
    text_so _ _ c.circuit_part.ensures c.args.rows.now c.read.new.rows c.requires _ _ c.in-Err.fault c.in-Err.ensures.reads c.in_ok-format-in-Err.field-0 c.in_ok-format-in-Err.ensures.ok
