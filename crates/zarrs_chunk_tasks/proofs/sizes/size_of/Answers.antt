use Rattle.std.proofs.Common.{refl}
use Rattle.std.specs.Int.NonZero.{non_zero_u64_get}
use Rattle.zarrs_chunk_tasks.specs.seen.Sizes.{side_of}
use Rattle.zarrs_chunk_tasks.proofs.GroupSizes.{found_size, found_taking}
use Rattle.zarrs_chunk_tasks.proofs.SumsAlong.{one_of}
use Rattle.zarrs_chunk_tasks.proofs.sizes.size_of.Goals as goal

pub sums_along-requires-clause-groups : goal.sums_along-requires-clause-groups
sums_along-requires-clause-groups g c =
    let range = c.args.range.now in
    let it = one_of _ _ range.dimension (g.met.K.ChunkGridTraits.chained range.grid.now) c.requires.range in
    it.back _
    (found_taking it.d (non_zero_u64_get c.args.each) range.at range.size range.first range.last _ _ _ _ it.chain c.args.each.ok (it.at _ c.requires.range).over
    (it.at _ c.requires.range).within c.div-group.ensures c.div.ensures c.saturating_sub.ensures c.saturating_add.ensures)

pub returns-clause-size : goal.returns-clause-size
returns-clause-size g c =
    let range = c.args.range.now in
    let it = one_of _ _ range.dimension (g.met.K.ChunkGridTraits.chained range.grid.now) c.requires.range in
    let other = one_of _ _ range.dimension (g.met.G.ChunkGridTraits.chained c.args.other.now) c.requires.other in
    let sums = other.at _ (it.at _ (c.in_ok-sums.ensures {u = tt})) in
    it.back _
    (other.back _
    (found_size (side_of range c.args.first it.d other.d) _ _ _ c.in_ok-sums.sums it.chain (it.at _ c.requires.range).over c.div-group.ensures
    (rw (c.saturating_sub.ensures, c.div.ensures, c.div-group.ensures) at c.saturating_add.ensures) sums refl refl refl))
