use Rattle.std.proofs.Common.{◌+◌, ◌-◌, refl}
use Rattle.zarrs_chunk_base.specs.Dimension.{Holds}
use Rattle.zarrs_chunk_tasks.specs.Limits.{HasPart}
use Rattle.zarrs_chunk_tasks.specs.seen.LargestChunk.{IsLongestOf}
use Rattle.zarrs_chunk_tasks.specs.seen.Least.{AreNoShorter}
use Rattle.zarrs_chunk_tasks.proofs.LeastStage.{last_holds, limits_are, numbers_fit}
use Rattle.zarrs_chunk_tasks.proofs.SumsAlong.{one_of}
use Rattle.zarrs_chunk_tasks.proofs.least.limits_along.Goals as goal

pub longest_along-requires-clause-fits : goal.longest_along-requires-clause-fits
longest_along-requires-clause-fits g c =
    let low = rw (c.in_ok-low.ensures {u = tt}) at (c.in_ok-chunk_along.ensures {u = tt}) in
    let high = rw (c.in_ok-high.ensures {u = tt}) at (c.in_ok-chunk_along-2.ensures {u = tt}) in
    let it = one_of _ _ c.args.dimension (g.met.G.ChunkGridTraits.chained c.args.source.now) c.requires.source in
    let lowest = it.at (λ d. Holds d c.in_ok-low.low c.args.first) low in
    let highest = it.at (λ d. Holds d c.in_ok-high.high (c.args.first + (c.args.size - 1))) high in
    let many_is = rw c.saturating_sub.ensures at c.saturating_add-many.ensures in
    numbers_fit it.d it.chain c.args.first c.args.size c.in_ok-low.low c.in_ok-high.high c.saturating_add-many.result c.requires.some c.requires.first lowest highest many_is

pub longest_along-requires-clause-last : goal.longest_along-requires-clause-last
longest_along-requires-clause-last g c =
    let low = rw (c.in_ok-low.ensures {u = tt}) at (c.in_ok-chunk_along.ensures {u = tt}) in
    let high = rw (c.in_ok-high.ensures {u = tt}) at (c.in_ok-chunk_along-2.ensures {u = tt}) in
    let it = one_of _ _ c.args.dimension (g.met.G.ChunkGridTraits.chained c.args.source.now) c.requires.source in
    let lowest = it.at (λ d. Holds d c.in_ok-low.low c.args.first) low in
    let highest = it.at (λ d. Holds d c.in_ok-high.high (c.args.first + (c.args.size - 1))) high in
    let many_is = rw c.saturating_sub.ensures at c.saturating_add-many.ensures in
    it.back _ (last_holds it.d it.chain c.args.first c.args.size c.in_ok-low.low c.in_ok-high.high c.saturating_add-many.result c.requires.some c.requires.first lowest highest many_is (it.at _ c.requires.source))

pub shortest_along-requires-clause-fits : goal.shortest_along-requires-clause-fits
shortest_along-requires-clause-fits g c =
    let low = rw (c.in_ok-low.ensures {u = tt}) at (c.in_ok-chunk_along.ensures {u = tt}) in
    let high = rw (c.in_ok-high.ensures {u = tt}) at (c.in_ok-chunk_along-2.ensures {u = tt}) in
    let it = one_of _ _ c.args.dimension (g.met.G.ChunkGridTraits.chained c.args.source.now) c.requires.source in
    let lowest = it.at (λ d. Holds d c.in_ok-low.low c.args.first) low in
    let highest = it.at (λ d. Holds d c.in_ok-high.high (c.args.first + (c.args.size - 1))) high in
    let many_is = rw c.saturating_sub.ensures at c.saturating_add-many.ensures in
    numbers_fit it.d it.chain c.args.first c.args.size c.in_ok-low.low c.in_ok-high.high c.saturating_add-many.result c.requires.some c.requires.first lowest highest many_is

pub shortest_along-requires-clause-last : goal.shortest_along-requires-clause-last
shortest_along-requires-clause-last g c =
    let low = rw (c.in_ok-low.ensures {u = tt}) at (c.in_ok-chunk_along.ensures {u = tt}) in
    let high = rw (c.in_ok-high.ensures {u = tt}) at (c.in_ok-chunk_along-2.ensures {u = tt}) in
    let it = one_of _ _ c.args.dimension (g.met.G.ChunkGridTraits.chained c.args.source.now) c.requires.source in
    let lowest = it.at (λ d. Holds d c.in_ok-low.low c.args.first) low in
    let highest = it.at (λ d. Holds d c.in_ok-high.high (c.args.first + (c.args.size - 1))) high in
    let many_is = rw c.saturating_sub.ensures at c.saturating_add-many.ensures in
    it.back _ (last_holds it.d it.chain c.args.first c.args.size c.in_ok-low.low c.in_ok-high.high c.saturating_add-many.result c.requires.some c.requires.first lowest highest many_is (it.at _ c.requires.source))

pub returns : goal.returns
returns g c =
    let low = rw (c.in_ok-low.ensures {u = tt}) at (c.in_ok-chunk_along.ensures {u = tt}) in
    let high = rw (c.in_ok-high.ensures {u = tt}) at (c.in_ok-chunk_along-2.ensures {u = tt}) in
    let it = one_of _ _ c.args.dimension (g.met.G.ChunkGridTraits.chained c.args.source.now) c.requires.source in
    let lowest = it.at (λ d. Holds d c.in_ok-low.low c.args.first) low in
    let highest = it.at (λ d. Holds d c.in_ok-high.high (c.args.first + (c.args.size - 1))) high in
    let many_is = rw c.saturating_sub.ensures at c.saturating_add-many.ensures in
    let part = c.in_ok-part.ensures {u = tt} in
    let other = one_of _ _ c.args.dimension (g.met.H.ChunkGridTraits.chained c.args.target.now) part in
    let edge = c.in_ok-longest_along.field-0 in
    let longest = it.at (IsLongestOf c.in_ok-low.low c.saturating_add-many.result edge) (c.in_ok-longest_along.ensures {u = tt}) in
    it.back _
    (other.back _
    (limits_are it.d it.chain c.args.first c.args.size c.in_ok-low.low c.in_ok-high.high c.saturating_add-many.result c.requires.some c.requires.first lowest highest many_is edge longest other.d c.args.at c.in_ok-shortest.shortest c.in_ok-part.part
    (it.at (AreNoShorter c.in_ok-low.low c.saturating_add-many.result c.in_ok-shortest.shortest) (c.in_ok-shortest.ensures {u = tt}))
    (other.at (λ d. HasPart c.in_ok-part.part d c.args.at c.args.size) part) _ refl c.min-longest.ensures refl refl c.max.ensures))
