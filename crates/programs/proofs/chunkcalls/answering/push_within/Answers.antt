use Rattle.programs.proofs.chunkcalls.Common.{◌<◌, ◌≤◌, length, arith, longest_line}
use Rattle.programs.proofs.chunkcalls.KeptLines.{none_kept, one_kept}
use Rattle.programs.proofs.chunkcalls.answering.push_within.Goals as goal

pub returns-in_ok-push : goal.returns-in_ok-push
returns-in_ok-push c = λ whole other begun.
    let few : length c.args.line.now.items ≤ longest_line = omega arith in
    one_kept whole c.args.line.now.items c.args.byte other begun _ c.in_ok-push.ensures.items few

pub returns-else-len-le-LONGEST_LINE : goal.returns-else-len-le-LONGEST_LINE
returns-else-len-le-LONGEST_LINE c = λ whole other begun.
    let many : longest_line < length c.args.line.now.items = omega arith in
    none_kept whole c.args.line.now.items c.args.byte other begun many
