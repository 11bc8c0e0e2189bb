use Rattle.zarrs_chunk_plan.proofs.Common.{arith, HoldsSome}
use Rattle.zarrs_chunk_plan.proofs.counts.HeldRanges.{held_range, size_along}
use Rattle.zarrs_chunk_plan.proofs.counts.OneDimension.{one}
use Rattle.zarrs_chunk_plan.proofs.copy.chunk_elements.elements_along.Goals as goal

pub returns : goal.returns
returns g c =
    let ds = g.G.ChunkGridTraits.dimensions c.args.grid.now in
    let it = one (λ d. HoldsSome d c.args.first) _ c.args.dimension (g.met.G.ChunkGridTraits.chained c.args.grid.now) c.requires.first in
    let last = it.at _ c.requires.last in
    let range = it.at _ (rw (c.in_ok-start.ensures {u = tt}) at (c.in_ok-range_along.ensures {u = tt})) in
    let last_range = it.at _ (rw (c.in_ok-last_start.ensures {u = tt}) at (c.in_ok-range_along-2.ensures {u = tt})) in
    let sizes = rw c.array_shape-sizes.ensures at c.all_fit.ensures in
    let (size, fit) = it.at _ (size_along ds c.args.dimension sizes c.requires.dimension) in
    let end = rw (c.array_shape-sizes.ensures, size) at c.min-end.ensures in
    it.back _ (held_range it.d it.chain c.args.first c.args.last _ _ _ _ _ it.is last c.requires.in_order range last_range fit
    (omega (arith, c.saturating_sub.ensures, end, c.saturating_add.ensures)))
