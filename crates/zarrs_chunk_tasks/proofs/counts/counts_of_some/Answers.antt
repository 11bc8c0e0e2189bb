use Rattle.std.proofs.Common.{◌<◌, ◌∙◌, ap, arith, length, refl}
use Rattle.std.proofs.lemmas.List.{length-map}
use Rattle.std.specs.Int.NonZero.{non_zero_u64_get}
use Rattle.zarrs_chunk_tasks.proofs.GroupBoxes.{numbers}
use Rattle.zarrs_chunk_tasks.proofs.GroupCounts.{row_more, rows_are, same_sums}
use Rattle.zarrs_chunk_tasks.proofs.Grouped.{as_many_grouped}
use Rattle.zarrs_chunk_tasks.proofs.SumsAlong.{one}
use Rattle.zarrs_chunk_tasks.proofs.counts.counts_of_some.Goals as goal

pub loop-dimension-preserved : goal.loop-dimension-preserved
loop-dimension-preserved g c =
    let grouped = c.args.grouped.now in
    let source = g.G.ChunkGridTraits.dimensions c.args.copied.now.source.now in
    let target = g.H.ChunkGridTraits.dimensions c.args.copied.now.target.now in
    let ds = g.K.ChunkGridTraits.dimensions grouped.grid.now in
    let k = c.loop-dimension.dimension in
    let long = c.requires.long in
    let within : k < length ds = omega (arith, c.loop-dimension-test.true, long.each_long) in
    let it = one ds k (g.met.K.ChunkGridTraits.chained grouped.grid.now) within in
    let from = one source k (g.met.G.ChunkGridTraits.chained c.args.copied.now.source.now) (omega (arith, within, long.source_long)) in
    let into = one target k (g.met.H.ChunkGridTraits.chained c.args.copied.now.target.now) (omega (arith, within, long.target_long)) in
    let many = as_many_grouped ds (numbers grouped.each.now) (length-map grouped.each.now non_zero_u64_get ∙ long.each_long) in
    let read = from.at _ (it.at _ (rw (c.groups_along-along.ensures.grid, c.groups_along-along.ensures.dimension) at (c.in_ok-read.ensures {u = tt}))) in
    let written = into.at _ (it.at _ (rw (c.groups_along-along.ensures.grid, c.groups_along-along.ensures.dimension) at (c.in_ok-written.ensures {u = tt}))) in
    let along = c.groups_along-along.ensures in
    rw (c.in_ok-push.ensures {u = tt}).items
    (row_more source target ds grouped.each.now grouped.elements.now grouped.groups c.args.copied.now.first.now c.args.copied.now.at.now long many
    c.groups_along-along.result.each k within it from into c.loop-dimension.counts.items _ c.in_ok-read.read c.in_ok-written.written c.loop-dimension.invariant
    (same_sums (ap non_zero_u64_get along.each) along.at along.size along.group along.groups read)
    (same_sums (ap non_zero_u64_get along.each) along.at along.size along.group along.groups written)
    along.groups refl refl refl refl)

pub returns : goal.returns
returns g c =
    let grouped = c.args.grouped.now in
    let ds = g.K.ChunkGridTraits.dimensions grouped.grid.now in
    let long = c.requires.long in
    let many = as_many_grouped ds (numbers grouped.each.now) (length-map grouped.each.now non_zero_u64_get ∙ long.each_long) in
    rows_are _ _ ds grouped.each.now grouped.elements.now grouped.groups c.args.copied.now.first.now c.args.copied.now.at.now long many c.requires.is_box
    c.requires.named c.loop-dimension.dimension c.loop-dimension.counts.items (omega (arith, long.each_long, c.loop-dimension-test.false)) c.requires.some
    c.loop-dimension.invariant
