use Rattle.serde_json.specs.View.{view}
use Rattle.zarrs_chunk_keys.specs.seen.Encodings.{encoding_in}
use Rattle.zarrs_chunks.specs.seen.Grids.{grid_in}
use Rattle.zarrs_chunk_questions.specs.seen.Read.{items_of, lists_of}
use Rattle.std.proofs.Common.{◌*◌, arith}
use Rattle.zarrs_chunk_questions.proofs.LongPages.{part_least}
use Rattle.zarrs_chunk_questions.proofs.SomeItems.{parts_asked}
use Rattle.zarrs_chunk_questions.proofs.array_question.some_parts.Goals as goal

pub returns : goal.returns
returns c =
    let encoding = c.in_ok-encoding in
    let b = c.in-Ok in
    let fits = rw c.dimensionality.ensures at c.new-limits.ensures.full in
    parts_asked (view c.args.encoding_tree.now) (items_of c.args.items) (lists_of c.args.lists) (grid_in c.args.grid.now)
    (encoding_in encoding.encoding) encoding.ensures b.elements b.ensures.0 b.ensures.1 c.unwrap_or-first.result c.new-limits.result.most
    c.unwrap_or-first.ensures c.new-limits.ensures.most c.parts_from.result c.args.room
    (c.new-limits.result.too_many * part_least (grid_in c.args.grid.now).dimensions) (omega arith) c.parts_from.ensures
