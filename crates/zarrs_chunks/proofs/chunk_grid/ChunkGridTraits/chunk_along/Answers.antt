use Rattle.std.proofs.Common.{◌∙◌, ◌<◌, arith, length, subst, sym}
use Rattle.std.proofs.lemmas.Grind.{get_or_default_zero}
use Rattle.zarrs_chunk_axes.specs.Along.{HoldsAlong}
use Rattle.zarrs_chunks.proofs.OneDimension.{chunk_holds, no_index}
use Rattle.zarrs_chunks.proofs.chunk_grid.ChunkGridTraits.chunk_along.Goals as goal

pub index-requires : goal.index-requires
index-requires g c =
    let ds = g.Self.ChunkGridTraits.dimensions c.args.self.now in
    let within : c.args.dimension < length ds = rw c.dimensionality.ensures at c.if-dimension-dimensionality.false in
    let (_, box) = rw (c.in_ok-chunk.ensures {u = tt}, c.in-Some.is, c.deref.ensures.value) at c.chunk_indices-found.ensures in
    let (there, _) = chunk_holds ds c.args.dimension c.args.array_index c.in_ok-indices.indices.items (rw c.dimensionality-2.ensures at (c.in_ok-indices.ensures {u = tt})) within c.in-Some.chunk.items box in
    omega arith

pub returns-in-Some : goal.returns-in-Some
returns-in-Some g c =
    let ds = g.Self.ChunkGridTraits.dimensions c.args.self.now in
    let within : c.args.dimension < length ds = rw c.dimensionality.ensures at c.if-dimension-dimensionality.false in
    let (_, box) = rw (c.in_ok-chunk.ensures {u = tt}, c.in-Some.is, c.deref.ensures.value) at c.chunk_indices-found.ensures in
    let (there, holds) = chunk_holds ds c.args.dimension c.args.array_index c.in_ok-indices.indices.items (rw c.dimensionality-2.ensures at (c.in_ok-indices.ensures {u = tt})) within c.in-Some.chunk.items box in
    let read = c.index.ensures ∙ get_or_default_zero c.in-Some.chunk.items c.args.dimension c.index.result.now there in
    subst (HoldsAlong ds c.args.dimension c.args.array_index) (sym read) holds

pub returns : goal.returns
returns g c =
    let ds = g.Self.ChunkGridTraits.dimensions c.args.self.now in
    let within : c.args.dimension < length ds = rw c.dimensionality.ensures at c.if-dimension-dimensionality.false in
    let (_, none) = rw (c.in_ok-chunk.ensures {u = tt}, c.in-None.is, c.deref.ensures.value) at c.chunk_indices-found.ensures in
    no_index ds c.args.dimension c.args.array_index c.in_ok-indices.indices.items (rw c.dimensionality-2.ensures at (c.in_ok-indices.ensures {u = tt})) within (g.met.Self.ChunkGridTraits.chained c.args.self.now) none
