use Rattle.std.proofs.Common.{Err, Ok}
use Rattle.zarrs_chunk_questions.proofs.AnswerLines.{is_answer_line, is_long}
use Rattle.zarrs_chunk_questions.proofs.answer_line.answer_within.Goals as goal

pub returns-in_ok-write_line-in-Ok-Some-clause-says : goal.returns-in_ok-write_line-in-Ok-Some-clause-says
returns-in_ok-write_line-in-Ok-Some-clause-says c =
    let line = c.in_ok-write_line-in-Ok-Some in
    let (text, says, same) = line.ensures.says in
    is_answer_line c.args.line.now line.field-0.items text (Ok c.in-Ok-Some.tree)
    (rw c.in-Ok-Some.field-0-is at c.in-Ok-Some.ensures.answer) says same

pub returns-in_ok-write_line-in-Err-clause-says : goal.returns-in_ok-write_line-in-Err-clause-says
returns-in_ok-write_line-in-Err-clause-says c =
    let line = c.in_ok-write_line-in-Err in
    let (text, says, same) = line.ensures.says in
    is_answer_line c.args.line.now line.field-0.items text (Err c.in-Err.refusal) c.in-Err.ensures.answer says same

pub returns-in-Ok-None-clause-longer : goal.returns-in-Ok-None-clause-longer
returns-in-Ok-None-clause-longer c = λ _. is_long c.args.line.now c.args.room (rw c.in-Ok-None.field-0-is at c.in-Ok-None.ensures.answer)
