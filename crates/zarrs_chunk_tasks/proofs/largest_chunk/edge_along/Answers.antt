use Rattle.zarrs_chunk_tasks.proofs.SumsAlong.{one_of}
use Rattle.zarrs_chunk_tasks.proofs.largest_chunk.edge_along.Goals as goal

pub returns : goal.returns
returns g c =
    let found = rw (c.in_ok-edge.ensures {u = tt}) at (c.in_ok-range_along.ensures {u = tt}) in
    let it = one_of _ _ c.args.dimension (g.met.G.ChunkGridTraits.chained c.args.grid.now) found in
    let range = it.at _ found in
    it.back _ range.edge
