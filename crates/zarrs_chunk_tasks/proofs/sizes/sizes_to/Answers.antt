use Rattle.std.proofs.Common.{◌≡◌, ◌∙◌, ap, arith}
use Rattle.std.specs.Int.NonZero.{non_zero_u64_get}
use Rattle.zarrs_chunk_tasks.specs.seen.Sizes.{side_of}
use Rattle.zarrs_chunk_tasks.proofs.GroupSizes.{none_to, one_more_to}
use Rattle.zarrs_chunk_tasks.proofs.SumsAlong.{one_of}
use Rattle.zarrs_chunk_tasks.proofs.sizes.sizes_to.Goals as goal

pub loop-before-init : goal.loop-before-init
loop-before-init g c =
    let range = c.args.range.now in
    let it = one_of _ _ range.dimension (g.met.K.ChunkGridTraits.chained range.grid.now) c.requires.range in
    let other = one_of _ _ range.dimension (g.met.G.ChunkGridTraits.chained c.args.other.now) c.requires.other in
    it.back _ (other.back _ (rw c.new-sizes.ensures.items (none_to (side_of range c.args.first it.d other.d))))

pub loop-before-preserved : goal.loop-before-preserved
loop-before-preserved g c =
    let range = c.args.range.now in
    let it = one_of _ _ range.dimension (g.met.K.ChunkGridTraits.chained range.grid.now) c.requires.range in
    let other = one_of _ _ range.dimension (g.met.G.ChunkGridTraits.chained c.args.other.now) c.requires.other in
    let size = c.in_ok-size.ensures {u = tt} in
    it.back _
    (other.back _
    (one_more_to (side_of range c.args.first it.d other.d) it.chain (it.at _ c.requires.range).over c.loop-before.before c.loop-before.sizes.items _
    c.in_ok-size.size (other.at _ (it.at _ c.loop-before.invariant)) (other.at _ (it.at _ size.size))
    (ap non_zero_u64_get size.each ∙ omega (arith, c.saturating_add-each.ensures, c.loop-before-test.true, c.ranges.most.fits)) (c.in_ok-keep.ensures {u = tt})))

pub returns : goal.returns
returns g c =
    let last : c.loop-before.before ≡ c.args.most = omega (arith, c.loop-before-test.false, c.loop-before.auto.before-end) in rw (← last) c.loop-before.invariant
