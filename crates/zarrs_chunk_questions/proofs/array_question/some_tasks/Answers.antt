use Rattle.std.proofs.Common.{inr, ◌+◌, ◌*◌, ◌<◌, ◌≤◌, arith}
use Rattle.zarrs_chunk_questions.specs.Tasks.{source_dimensions}
use Rattle.zarrs_chunk_questions.specs.seen.Copies.{copy_of}
use Rattle.zarrs_chunk_questions.proofs.LongPages.{given_so, part_least}
use Rattle.zarrs_chunk_questions.proofs.Refusals.{in_other_words}
use Rattle.zarrs_chunk_questions.proofs.array_question.some_tasks.Goals as goal

pub returns : goal.returns
returns c =
    let copying = c.in_ok-copying.copying in
    let is = c.in_ok-copying.ensures in
    let least = part_least (source_dimensions (copy_of copying)) in
    let fits : c.args.room < c.new-limits.result.too_many * least = rw is.same_grid (rw c.dimensionality.ensures at c.new-limits.ensures.full) in
    let full : c.args.room + 1 ≤ c.new-limits.result.too_many * least = omega arith in
    in_other_words _ _ _ _ c.tasks_from.result
    (λ found some. given_so (c.new-limits.result.too_many * least) (c.args.room + 1) _ _ found
    (λ t answers. (copy_of copying, is, answers)) full some)
    (λ fault refused. inr (copy_of copying, is, refused)) (rw (c.unwrap_or.ensures, c.new-limits.ensures.most) at c.tasks_from.ensures)
