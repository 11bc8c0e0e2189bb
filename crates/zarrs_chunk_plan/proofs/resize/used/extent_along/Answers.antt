use Rattle.zarrs_chunk_plan.proofs.resize.Kept.{extent_of_range}
use Rattle.zarrs_chunk_plan.proofs.resize.used.extent_along.Goals as goal

pub returns : goal.returns
returns g c =
    let found = rw (c.in_ok-start.ensures {u = tt}) at (c.in_ok-range.ensures {u = tt}) in
    extent_of_range (g.G.ChunkGridTraits.dimensions c.args.grid.now) c.args.dimension c.args.chunk c.in_ok-start.start c.in_ok-start.edge _ found
    (rw (c.saturating_sub.ensures, c.array_shape.ensures) at c.min-held.ensures)
