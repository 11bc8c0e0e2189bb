use Rattle.zarrs_chunk_questions.specs.Question.{lists_in}
use Rattle.serde_json.specs.View.{view}
use Rattle.zarrs_chunk_questions.proofs.FirstFaults.{read_lists}
use Rattle.zarrs_chunk_questions.proofs.asked.lists.Goals as goal

pub returns : goal.returns
returns c = read_lists (lists_in c.args.field.now (view c.args.tree.now)) c.required_in.result c.required_in.ensures
