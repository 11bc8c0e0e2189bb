use Rattle.programs.proofs.chunkcalls.Common.{◌≤◌, codes, length, refl, arith, answered, longest_line}
use Rattle.programs.proofs.chunkcalls.answering.reply_to.Goals as goal

pub returns-then-line-gt-LONGEST_LINE-clause-one : goal.returns-then-line-gt-LONGEST_LINE-clause-one
returns-then-line-gt-LONGEST_LINE-clause-one c = rw c.in_ok-reply.ensures.items (codes "unreadable: line is longer than 16777216 bytes", refl, refl)

pub returns-in-Some-clause-says : goal.returns-in-Some-clause-says
returns-in-Some-clause-says c =
    let few : length c.args.line.now ≤ longest_line = omega arith in
    answered few (rw c.in-Some.is at c.in_ok-answer.ensures.says)

pub returns-clause-one : goal.returns-clause-one
returns-clause-one c =
    rw c.in_ok-reply-2.ensures.items (codes "refused: answer is too long: ask for fewer `items`, and for the others by `first`", refl, refl)
