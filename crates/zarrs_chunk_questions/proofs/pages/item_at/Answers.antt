use Rattle.std.proofs.Common.{◌<◌, arith, length, subst, sym}
use Rattle.zarrs_chunk_axes.specs.InBounds.{AreBelow}
use Rattle.zarrs_chunk_base.specs.Dimension.{grid_sizes}
use Rattle.zarrs_chunks.specs.Walks.{chunks_of}
use Rattle.zarrs_chunk_plan.proofs.Taken.{of_place}
use Rattle.zarrs_chunk_questions.proofs.WalkPages.{all_below_grid, all_counted, item_of_number}
use Rattle.zarrs_chunk_questions.proofs.pages.item_at.Goals as goal

pub chunk_at-requires : goal.chunk_at-requires
chunk_at-requires g c =
    let ds = g.G.ChunkGridTraits.dimensions c.args.grid.now in
    let within : c.args.number < length (chunks_of ds) = omega (arith, c.requires.within) in
    rw (c.requires.all, all_counted ds) within

pub item_of-requires : goal.item_of-requires
item_of-requires g c =
    let ds = g.G.ChunkGridTraits.dimensions c.args.grid.now in
    let at = rw c.requires.all at c.in_ok-chunk.ensures in
    subst (AreBelow (grid_sizes ds)) (sym c.as_slice.ensures) (of_place (AreBelow (grid_sizes ds)) _ c.args.number _ (all_below_grid ds) at)

pub returns : goal.returns
returns g c =
    let ds = g.G.ChunkGridTraits.dimensions c.args.grid.now in
    let at = rw (c.requires.all, all_counted ds) at c.in_ok-chunk.ensures in
    item_of_number c.args.walk ds c.args.number c.in_ok-chunk.chunk.items c.requires.within at c.item_of.result (rw c.as_slice.ensures at c.item_of.ensures)
