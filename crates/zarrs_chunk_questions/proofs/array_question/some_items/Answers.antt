use Rattle.zarrs_chunks.specs.seen.Grids.{grid_in}
use Rattle.zarrs_chunk_questions.proofs.LongPages.{first_made, page_made}
use Rattle.zarrs_chunk_questions.proofs.array_question.some_items.Goals as goal

pub returns-in-Some : goal.returns-in-Some
returns-in-Some c =
    let ds = (grid_in c.args.grid.now).dimensions in
    let limits = c.new-limits.result in
    let full = rw (c.lists.ensures, c.dimensionality.ensures) at c.new-limits.ensures.full in
    rw c.in-Some.is
    (page_made c.args.walk ds c.args.items.most c.args.room limits.too_many full c.in-Some.first c.items_from.result
    (rw c.new-limits.ensures.most at c.items_from.ensures))

pub returns-in-None : goal.returns-in-None
returns-in-None c =
    let ds = (grid_in c.args.grid.now).dimensions in
    let limits = c.new-limits.result in
    let full = rw (c.lists.ensures, c.dimensionality.ensures) at c.new-limits.ensures.full in
    rw c.in-None.is
    (first_made c.args.walk ds c.args.items.most c.args.room limits.too_many full c.items_of_walk.result
    (rw c.new-limits.ensures.most at c.items_of_walk.ensures))
