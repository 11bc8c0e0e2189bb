use Rattle.zarrs_chunk_batches.proofs.Batches.{AreKeptBelow}
use Rattle.zarrs_chunk_batches.specs.Batch.{AreAnsweredBelow}
use Rattle.zarrs_chunk_batches.specs.Calls.{AreQuestions}
use Rattle.zarrs_chunk_batches.proofs.batch.answer_all.Given as goal

-- the questions so far are answered, and the lists of the others are as they were
abbrev pub invariant-loop-number : goal.invariant-loop-number
invariant-loop-number g l = record {
  answered : AreAnsweredBelow l.number (g.Q.Questions.answered l.questions) (g.Q.Questions.unanswered l.questions) l.widths l.first l.second l.found;
  first_kept : AreKeptBelow l.number l.widths.0 l.initial.first l.first l.found;
  second_kept : AreKeptBelow l.number l.widths.1 l.initial.second l.second l.found;
  asked : AreQuestions l.number (g.Q.Questions.is_question l.questions);
}
