use Rattle.std.proofs.Common.{◌+◌, arith, inl, inr}
use Rattle.zarrs_chunks.specs.seen.Grids.{grid_in, kind_in}
use Rattle.zarrs_chunk_questions.proofs.LongPages.{given_so}
use Rattle.zarrs_chunk_questions.proofs.Refusals.{handed_on, in_other_words}
use Rattle.zarrs_chunk_questions.proofs.answering.answer_question.Goals as goal

pub returns-in_err-grid-in-OfArray-clause-answer : goal.returns-in_err-grid-in-OfArray-clause-answer
returns-in_err-grid-in-OfArray-clause-answer c =
    rw c.in-OfArray.is
    (handed_on _ _ _ c.from_residual.result c.in_err-grid-in-OfArray.field-0.0 (λ fault is. inl is)
    (rw c.deref.ensures.value at c.in_err-grid-in-OfArray.ensures)
    c.from_residual.ensures.1)

pub returns-in_ok-grid-in-OfArray-clause-answer : goal.returns-in_ok-grid-in-OfArray-clause-answer
returns-in_ok-grid-in-OfArray-clause-answer c =
    let grid = c.in_ok-grid-in-OfArray.grid in
    let made = rw c.deref.ensures.value at c.in_ok-grid-in-OfArray.ensures in
    rw c.in-OfArray.is
    (in_other_words _ _ _ _ c.answer_asked.result
    (λ found is. given_so (c.args.room + 1) (c.args.room + 1) _ _ found (λ tree is. (kind_in grid, grid_in grid, made, is)) (omega arith) is)
    (λ fault is. inr (kind_in grid, grid_in grid, made, is)) (rw c.deref-in-OfArray.ensures.value at c.answer_asked.ensures.answer))

pub answer_asked-requires : goal.answer_asked-requires
answer_asked-requires c = rw (c.deref.ensures.value, ← c.deref-in-OfArray.ensures.value) at c.in_ok-grid-in-OfArray.ensures
