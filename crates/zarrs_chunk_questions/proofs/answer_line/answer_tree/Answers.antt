use Rattle.serde_json.specs.View.{view}
use Rattle.zarrs_chunk_questions.proofs.AnswerLines.{is_tree_fault}
use Rattle.zarrs_chunk_questions.proofs.answer_line.answer_tree.Goals as goal

pub returns-in-Err-Refused-clause-answer : goal.returns-in-Err-Refused-clause-answer
returns-in-Err-Refused-clause-answer c =
    let refused = c.in-Err-Refused in
    let (reading, is_reading, is) = refused.ensures in
    rw refused.field-0-is (is_tree_fault (view c.args.tree.now) refused.fault reading is_reading (rw refused.field-0-is at is))
