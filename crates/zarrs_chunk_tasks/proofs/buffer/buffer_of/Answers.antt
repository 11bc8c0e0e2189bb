use Rattle.std.proofs.Common.{◌≡◌, ◌∙◌, ◌++◌, [], ◌∷◌, ◌<◌, arith, ap₂, length, slice_index_or, sym, take_all}
use Rattle.std.proofs.lemmas.List.{take_more}
use Rattle.zarrs_chunk_base.specs.ArraySubset.{lasts}
use Rattle.zarrs_chunk_tasks.proofs.Buffers.{along, befores, befores_long, is_buffer, last_at, sizes_long, takes_each}
use Rattle.zarrs_chunk_tasks.proofs.GroupBoxes.{group_long, groups}
use Rattle.zarrs_chunk_tasks.proofs.GroupCounts.{end_fits}
use Rattle.zarrs_chunk_plan.specs.seen.Sources.{taken_sizes}
use Rattle.zarrs_chunk_tasks.proofs.buffer.buffer_of.Goals as goal

pub loop-dimension-preserved : goal.loop-dimension-preserved
loop-dimension-preserved g c = λ is holds.
    let ds = g.G.ChunkGridTraits.dimensions c.args.grid.now in
    let each = c.args.each.now in
    let elements = c.args.elements.now in
    let cover = c.args.cover.now in
    let group = c.args.group.now in
    let k = c.loop-dimension.dimension in
    let chains = g.met.G.ChunkGridTraits.chained c.args.grid.now in
    let many = group_long ds each group holds.0 holds.2 in
    let is_box = c.is_a_box.ensures in
    let is_cover_box = c.is_a_box-2.ensures in
    let less = c.loop-dimension-test.true in
    let long_each : length each ≡ length group = c.if-each-dimensions.false in
    let long_cover : length cover.start ≡ length group =
    omega (arith, c.dimensionality-else-dimensionality-dimensions.ensures, c.if-dimensionality-dimensions-2.false) in
    let within : k < length ds = omega (arith, less, long_each, many) in
    let it = along ds each elements cover group chains many is_box is holds c.index-each-dimension.result k c.index-each-dimension.is within in
    let fits = end_fits cover.start cover.shape k is_cover_box.fits (omega (arith, less, long_cover)) (omega (arith, less, long_cover, is_cover_box.lengths)) in
    let last_is = last_at cover.start cover.shape k (omega (arith, less, long_cover)) (omega (arith, less, long_cover, is_cover_box.lengths)) in
    let told = rw (c.start.ensures.value, c.start-in-loop-dimension.ensures.value, c.shape.ensures.value) at c.in_ok-before.ensures in
    let (starts, sizes) = c.loop-dimension.invariant is holds in
    let last : c.saturating_add.result ≡ slice_index_or (lasts cover.start cover.shape) k 0 =
    omega (arith, last_is, fits, rw c.start.ensures.value at c.saturating_add.ensures, rw c.shape-in-loop-dimension.ensures.value at c.saturating_sub.ensures) in
    let takes = takes_each ds each elements cover group chains many is_box is holds in
    let (before, size) = it.is (c.in_ok-before.before, c.in_ok-before.size) (told (rw last it.over) it.takes) in
    let all = befores (groups ds each) elements.start group in
    let all_sizes = taken_sizes (groups ds each) elements.start elements.shape group in (
      (c.in_ok-push.ensures {u = tt}).items ∙ ap₂ (λ xs x. xs ++ x ∷ []) starts before
          ∙ sym (take_more all k 0 (omega (arith, less, befores_long (groups ds each) elements.start elements.shape group takes))),
      (c.in_ok-push-2.ensures {u = tt}).items ∙ ap₂ (λ xs x. xs ++ x ∷ []) sizes size
          ∙ sym (take_more all_sizes k 0 (omega (arith, less, sizes_long (groups ds each) elements.start elements.shape group takes))),
    )

pub returns-clause-buffer : goal.returns-clause-buffer
returns-clause-buffer g c = λ is holds.
    let ds = g.G.ChunkGridTraits.dimensions c.args.grid.now in
    let each = c.args.each.now in
    let elements = c.args.elements.now in
    let cover = c.args.cover.now in
    let group = c.args.group.now in
    let k = c.loop-dimension.dimension in
    let chains = g.met.G.ChunkGridTraits.chained c.args.grid.now in
    let many = group_long ds each group holds.0 holds.2 in
    let is_box = c.is_a_box.ensures in
    let takes = takes_each ds each elements cover group chains many is_box is holds in
    let (starts, sizes) = c.loop-dimension.invariant is holds in
    let all = befores (groups ds each) elements.start group in
    let all_sizes = taken_sizes (groups ds each) elements.start elements.shape group in
    let no_more = c.loop-dimension-test.false in
    let start_is = starts ∙ take_all k all (omega (arith, no_more, befores_long (groups ds each) elements.start elements.shape group takes)) in
    let shape_is = sizes ∙ take_all k all_sizes (omega (arith, no_more, sizes_long (groups ds each) elements.start elements.shape group takes)) in
    rw (c.in_ok-made_box.ensures.value, start_is, shape_is) (is_buffer ds each elements cover group chains many is_box is holds)
