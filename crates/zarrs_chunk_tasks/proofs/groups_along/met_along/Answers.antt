use Rattle.std.proofs.Common.{arith}
use Rattle.zarrs_chunk_base.specs.Dimension.{Holds}
use Rattle.zarrs_chunk_axes.specs.Along.{IsRange}
use Rattle.zarrs_chunk_tasks.proofs.SumsAlong.{found_is, one_of}
use Rattle.zarrs_chunk_tasks.proofs.groups_along.met_along.Goals as goal

pub returns : goal.returns
returns g c =
    let low = rw (c.in_ok-low.ensures {u = tt}) at (c.in_ok-chunk_along.ensures {u = tt}) in
    let high = rw (c.in_ok-high.ensures {u = tt}) at (c.in_ok-chunk_along-2.ensures {u = tt}) in
    let range = rw (c.in_ok-start.ensures {u = tt}) at (c.in_ok-range_along.ensures {u = tt}) in
    let last_range = rw (c.in_ok-last_start.ensures {u = tt}) at (c.in_ok-range_along-2.ensures {u = tt}) in
    let it = one_of _ _ c.args.dimension (g.met.G.ChunkGridTraits.chained c.args.grid.now) low in
    it.back _
    (found_is it.d it.chain c.in_ok-low.low c.in_ok-high.high c.args.first c.args.size _ _ _ _ c.requires.some c.requires.fits c.elements_to.ensures.fits
    (it.at (λ d. Holds d c.in_ok-low.low c.args.first) low) (it.at (λ d. Holds d c.in_ok-high.high _) high)
    (it.at (λ d. IsRange d c.in_ok-low.low _) range) (it.at (λ d. IsRange d c.in_ok-high.high _) last_range) _ (omega (arith, c.saturating_add.ensures, c.saturating_sub.ensures))
    c.elements_to.ensures.elements)
