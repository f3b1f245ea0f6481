use Rattle.std.proofs.Common.{◌≡◌, ◌<◌, length, get_or, rules}
use Rattle.text.proofs.FirstLine.{Without, cut_at, uncut, rest_shorter, lines_first}
use Rattle.text.proofs.cutting.first_line.Goals as goal
use Rattle.text.proofs.cutting.first_line.Goals.{In-Some, In-None}

pub returns-in-Some : goal.returns-in-Some
returns-in-Some c =
    let before : Without c.args.text.now c.in-Some.n = search rules in
    let within : c.in-Some.n < length c.args.text.now = search rules in
    let ten : get_or c.args.text.now c.in-Some.n 0 ≡ 10 = search rules in
    let cut = cut_at c.args.text.now c.in-Some.n within before ten in
    record { cut = cut; lines = λ some. lines_first _ _ _ some cut; shorter = λ some. rest_shorter _ _ _ some cut }

pub returns-in-None : goal.returns-in-None
returns-in-None c =
    let none : Without c.args.text.now (length c.args.text.now) = search rules in
    let cut = uncut c.args.text.now none in
    record { cut = cut; lines = λ some. lines_first _ _ _ some cut; shorter = λ some. rest_shorter _ _ _ some cut }
