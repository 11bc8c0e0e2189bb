use Rattle.std.proofs.Common.{inr}
use Rattle.zarrs_chunk_questions.specs.seen.Copies.{copy_of}
use Rattle.zarrs_chunk_questions.proofs.Refusals.{in_other_words}
use Rattle.zarrs_chunk_questions.proofs.array_question.answer_counts.Goals as goal

pub returns : goal.returns
returns c =
    let copying = c.in_ok-copying.copying in
    let is = c.in_ok-copying.ensures in
    in_other_words _ _ _ _ c.counts_of.result (λ t answers. (copy_of copying, is, answers))
    (λ fault refused. inr (copy_of copying, is, refused)) c.counts_of.ensures
