use Rattle.std.proofs.Common.{◌∙◌, sym}
use Rattle.zarrs_chunk_base.specs.Dimension.{HasEdge, IsOrigin, IsShape, StartsAt}
use Rattle.zarrs_chunk_base.proofs.InEach.{length_values}
use Rattle.zarrs_chunk_parts.proofs.Shares.{boxes_are, has_all_of}
use Rattle.zarrs_chunk_parts.proofs.shared.shared_elements.Goals as goal

pub sizes_shared-sizes-requires-clause-sizes : goal.sizes_shared-sizes-requires-clause-sizes
sizes_shared-sizes-requires-clause-sizes g c =
    let ds = g.G.ChunkGridTraits.dimensions c.args.grid.now in
    let chunk = c.args.chunk.now in
    let origin = c.in_ok-origin.origin.items in
    let edges = c.in_ok-edges.edges.items in
    let is : IsOrigin ds chunk origin = (rw c.in_ok-origin.ensures at c.chunk_origin.ensures).1 in
    let long : IsShape ds chunk edges = (rw c.in_ok-edges.ensures at c.chunk_shape_u64.ensures).1 in
    rw c.deref-4.ensures.value (length_values HasEdge ds chunk edges long ∙ sym (length_values StartsAt ds chunk origin is))

pub returns-clause-boxes : goal.returns-clause-boxes
returns-clause-boxes g c = λ meets.
    let ds = g.G.ChunkGridTraits.dimensions c.args.grid.now in
    let subset = c.args.array_subset.now in
    let chunk = c.args.chunk.now in
    let origin = c.in_ok-origin.origin.items in
    let edges = c.in_ok-edges.edges.items in
    let is : IsOrigin ds chunk origin = (rw c.in_ok-origin.ensures at c.chunk_origin.ensures).1 in
    let long : IsShape ds chunk edges = (rw c.in_ok-edges.ensures at c.chunk_shape_u64.ensures).1 in
    let (_, _, shared) = boxes_are ds subset chunk origin edges c.start-start.ensures.is_box meets is long in
    let sizes = rw c.deref-4.ensures.value at c.sizes_shared-sizes.ensures in
    let copied = rw c.deref-6.ensures.value at c.in_ok-from_slice-2.ensures.items in
    let also = rw (c.in_ok-from_slice.ensures.items, c.deref-5.ensures.value, c.start-start.ensures.value) at c.distance-from_start.ensures in
    let steps = rw c.start-start.ensures.value at c.distance.ensures in
    rw (c.in_ok-in_chunk.ensures.value, c.in_ok-in_selection.ensures.value, steps, also, copied, sizes) shared

pub returns-clause-whole : goal.returns-clause-whole
returns-clause-whole g c = λ meets.
    let ds = g.G.ChunkGridTraits.dimensions c.args.grid.now in
    let subset = c.args.array_subset.now in
    let chunk = c.args.chunk.now in
    let origin = c.in_ok-origin.origin.items in
    let edges = c.in_ok-edges.edges.items in
    let is : IsOrigin ds chunk origin = (rw c.in_ok-origin.ensures at c.chunk_origin.ensures).1 in
    let long : IsShape ds chunk edges = (rw c.in_ok-edges.ensures at c.chunk_shape_u64.ensures).1 in
    let (a, b, d, same) = has_all_of ds subset chunk origin edges c.start-start.ensures.is_box meets is long in
    let told = rw (c.deref-2.ensures.value, c.deref-3.ensures.value, c.array_shape.ensures) at c.has_all-whole.ensures in
    let whole = told a b d in
    (λ t. same.0 (whole.0 t), λ has. whole.1 (same.1 has))
