use Rattle.zarrs_chunks.specs.seen.Grids.{grid_in}
use Rattle.zarrs_chunk_questions.specs.Answers.{AnswersCoverOf}
use Rattle.zarrs_chunk_questions.proofs.Refusals.{says_box}
use Rattle.zarrs_chunk_questions.proofs.grid_answers.answer_box.Goals as goal

pub returns-in-ChunksInArraySubset : goal.returns-in-ChunksInArraySubset
returns-in-ChunksInArraySubset c =
    let cover = c.chunks_in_array_subset in
    let told = c.box_or_null-in-ChunksInArraySubset in
    rw c.in-ChunksInArraySubset.is
    (says_box (AnswersCoverOf (grid_in c.args.grid.now).dimensions c.args.subset.now) cover.result told.result
    (cover.ensures.empty, cover.ensures.answers)
    told.ensures.tree told.ensures.refused)
