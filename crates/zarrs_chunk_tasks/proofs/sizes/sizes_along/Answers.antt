use Rattle.std.proofs.Common.{◌≡◌, ◌+◌, arith}
use Rattle.zarrs_chunk_tasks.specs.seen.Sizes.{side_of}
use Rattle.zarrs_chunk_tasks.proofs.GroupSizes.{all_sizes, chunk_small, one_more}
use Rattle.zarrs_chunk_tasks.proofs.SumsAlong.{one_of}
use Rattle.zarrs_chunk_tasks.proofs.sizes.sizes_along.Goals as goal

pub loop-last-init : goal.loop-last-init
loop-last-init g c =
    let range = c.args.range.now in
    let it = one_of _ _ range.dimension (g.met.K.ChunkGridTraits.chained range.grid.now) c.requires.range in
    let other = one_of _ _ range.dimension (g.met.G.ChunkGridTraits.chained c.args.other.now) c.requires.other in
    let over = (it.at _ c.requires.range).over in
    let small = chunk_small it.d it.chain range.at range.size range.first range.last over in
    let last = c.first_last-last.ensures in
    let next : c.saturating_add.result ≡ c.first_last-last.result + 1 = omega (arith, c.saturating_add.ensures, small, last.within) in (
      it.back _
          (other.back _
          (all_sizes (side_of range c.args.first it.d other.d) it.chain over c.args.are_all c.first_last-last.result _ last.all
          (rw next at (other.at _ (it.at _ (c.in_ok-sizes.ensures {u = tt})))))),
      last.within,
      last.all,
    )

pub loop-last-preserved : goal.loop-last-preserved
loop-last-preserved g c =
    let range = c.args.range.now in
    let it = one_of _ _ range.dimension (g.met.K.ChunkGridTraits.chained range.grid.now) c.requires.range in
    let other = one_of _ _ range.dimension (g.met.G.ChunkGridTraits.chained c.args.other.now) c.requires.other in
    let (so_far, within, all) = c.loop-last.invariant in
    let next = c.greater-last.ensures in (
      it.back _
          (other.back _
          (one_more (side_of range c.args.first it.d other.d) it.chain (it.at _ c.requires.range).over c.args.are_all c.loop-last.sizes.items _ c.in_ok-size.size
          (other.at _ (it.at _ so_far)) (other.at _ (it.at _ (c.in_ok-size.ensures {u = tt}).size)) (c.in_ok-keep.ensures {u = tt})
          (λ are_all. absurd (omega (arith, all are_all, c.loop-last-test.true))))),
      next.within,
      λ are_all. absurd (omega (arith, all are_all, c.loop-last-test.true)),
    )

pub returns : goal.returns
returns g c = c.loop-last.invariant.0

pub loop-last-smaller : goal.loop-last-smaller
loop-last-smaller g c = omega (arith, c.greater-last.ensures.greater, c.greater-last.ensures.within, c.loop-last-test.true)
