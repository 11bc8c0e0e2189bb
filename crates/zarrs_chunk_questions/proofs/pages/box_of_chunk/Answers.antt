use Rattle.std.proofs.Common.{◌∙◌, Ok, ap}
use Rattle.zarrs_chunk_questions.specs.Trees.{box_tree}
use Rattle.zarrs_chunk_questions.proofs.WalkPages.{with_box, without_box}
use Rattle.zarrs_chunk_questions.proofs.pages.box_of_chunk.Goals as goal

pub returns-in_ok-write_box-in-Ok-Some : goal.returns-in_ok-write_box-in-Ok-Some
returns-in_ok-write_box-in-Ok-Some g c =
    let found = c.in-Ok-Some in
    let (one, same) = with_box (g.G.ChunkGridTraits.dimensions c.args.grid.now) c.args.chunk.now c.subset.result c.subset.ensures found.subset
    (found.is ∙ ap Ok found.field-0-is)
    in
    (one, c.in_ok-write_box-in-Ok-Some.ensures.tree ∙ ap box_tree same)

pub returns-in-Ok-None : goal.returns-in-Ok-None
returns-in-Ok-None g c =
    without_box (g.G.ChunkGridTraits.dimensions c.args.grid.now) c.args.chunk.now c.subset.result c.subset.ensures
    (g.met.G.ChunkGridTraits.chained c.args.grid.now) c.requires (c.in-Ok-None.is ∙ ap Ok c.in-Ok-None.field-0-is)
