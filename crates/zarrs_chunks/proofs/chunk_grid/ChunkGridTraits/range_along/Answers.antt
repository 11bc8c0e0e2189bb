use Rattle.std.proofs.Common.{◌∙◌, ◌<◌, arith, length, subst, sym}
use Rattle.std.proofs.lemmas.Grind.{get_or_default_zero}
use Rattle.zarrs_chunk_base.specs.Dimension.{HasEdge, StartsAt}
use Rattle.zarrs_chunk_axes.specs.Along.{Along}
use Rattle.zarrs_chunks.proofs.OneDimension.{chunk_is_long, chunk_starts, has_range, no_range}
use Rattle.zarrs_chunks.proofs.Subsets.{is_chunk}
use Rattle.zarrs_chunks.proofs.chunk_grid.ChunkGridTraits.range_along.Goals as goal

pub returns-in_default : goal.returns-in_default
returns-in_default g c =
    let ds = g.Self.ChunkGridTraits.dimensions c.args.self.now in
    let (_, none) = rw (c.in_ok-origin.ensures {u = tt}, c.in_default.is, c.deref.ensures.value) at c.chunk_origin-found.ensures in
    no_range ds c.args.dimension c.args.chunk_index c.in_ok-chunk.chunk.items (g.met.Self.ChunkGridTraits.chained c.args.self.now)
    (rw c.dimensionality-2.ensures at (c.in_ok-chunk.ensures {u = tt})) none

pub returns-in_default-2 : goal.returns-in_default-2
returns-in_default-2 g c =
    let ds = g.Self.ChunkGridTraits.dimensions c.args.self.now in
    let (_, is) = rw (c.in_ok-origin.ensures {u = tt}, c.in-Some.is, c.deref.ensures.value) at c.chunk_origin-found.ensures in
    let (_, none) = rw (c.in_ok-shape.ensures {u = tt}, c.in_default-2.is, c.deref-2.ensures.value) at c.chunk_shape_u64-found.ensures in
    absurd (none (is_chunk ds c.in_ok-chunk.chunk.items c.in-Some.origin.items is))

pub index-requires : goal.index-requires
index-requires g c =
    let ds = g.Self.ChunkGridTraits.dimensions c.args.self.now in
    let within : c.args.dimension < length ds = rw c.dimensionality.ensures at c.if-dimension-dimensionality.false in
    let (_, is) = rw (c.in_ok-origin.ensures {u = tt}, c.in-Some.is, c.deref.ensures.value) at c.chunk_origin-found.ensures in
    let numbers = rw c.dimensionality-2.ensures at (c.in_ok-chunk.ensures {u = tt}) in
    let (there, _) = chunk_starts ds c.args.dimension c.args.chunk_index c.in_ok-chunk.chunk.items numbers within c.in-Some.origin.items is in
    omega arith

pub index-requires-2 : goal.index-requires-2
index-requires-2 g c =
    let ds = g.Self.ChunkGridTraits.dimensions c.args.self.now in
    let within : c.args.dimension < length ds = rw c.dimensionality.ensures at c.if-dimension-dimensionality.false in
    let (_, is) = rw (c.in_ok-shape.ensures {u = tt}, c.in-Some-2.is, c.deref-2.ensures.value) at c.chunk_shape_u64-found.ensures in
    let numbers = rw c.dimensionality-2.ensures at (c.in_ok-chunk.ensures {u = tt}) in
    let (there, _) = chunk_is_long ds c.args.dimension c.args.chunk_index c.in_ok-chunk.chunk.items numbers within c.in-Some-2.shape.items is in
    omega arith

pub returns : goal.returns
returns g c =
    let ds = g.Self.ChunkGridTraits.dimensions c.args.self.now in
    let k = c.args.dimension in
    let within : k < length ds = rw c.dimensionality.ensures at c.if-dimension-dimensionality.false in
    let (_, is_origin) = rw (c.in_ok-origin.ensures {u = tt}, c.in-Some.is, c.deref.ensures.value) at c.chunk_origin-found.ensures in
    let (_, is_shape) = rw (c.in_ok-shape.ensures {u = tt}, c.in-Some-2.is, c.deref-2.ensures.value) at c.chunk_shape_u64-found.ensures in
    let numbers = rw c.dimensionality-2.ensures at (c.in_ok-chunk.ensures {u = tt}) in
    let (first, starts) = chunk_starts ds k c.args.chunk_index c.in_ok-chunk.chunk.items numbers within c.in-Some.origin.items is_origin in
    let (second, long) = chunk_is_long ds k c.args.chunk_index c.in_ok-chunk.chunk.items numbers within c.in-Some-2.shape.items is_shape in
    let start = c.index.ensures ∙ get_or_default_zero c.in-Some.origin.items k c.index.result.now first in
    let edge = c.index-2.ensures ∙ get_or_default_zero c.in-Some-2.shape.items k c.index-2.result.now second in
    has_range ds k c.args.chunk_index c.index.result.now c.index-2.result.now
    (subst (λ n. Along (λ d. StartsAt d c.args.chunk_index n) ds k) (sym start) starts)
    (subst (λ n. Along (λ d. HasEdge d c.args.chunk_index n) ds k) (sym edge) long)
