use Rattle.zarrs_chunk_plan.proofs.Common.{◌≡◌, length, rules}
use Rattle.zarrs_chunk_plan.proofs.Clipped.{is_clipped, is_covered}
use Rattle.zarrs_chunk_plan.proofs.read.clipping.clip.Goals as goal

pub returns-clause-clipped : goal.returns-clause-clipped
returns-clause-clipped g c =
    let ds = g.G.ChunkGridTraits.dimensions c.args.grid.now in
    let both = c.in_ok-overlap.ensures in
    let many : length c.args.array_subset.now.start ≡ length ds = search rules in
    let starts = rw c.in_ok-array.ensures.elements at both.start in
    let common = rw c.in_ok-array.ensures.elements at both.common in
    let shape = rw c.in_ok-array.ensures.elements at both.shape in
    is_clipped ds c.args.array_subset.now c.in_ok-overlap.field-0 many c.is_a_box.ensures c.in_ok-array.ensures.is_box both.is_box starts shape common

pub returns-clause-covered : goal.returns-clause-covered
returns-clause-covered g c =
    let ds = g.G.ChunkGridTraits.dimensions c.args.grid.now in
    is_covered ds c.args.array_subset.now c.in_ok-overlap.field-0 (g.met.G.ChunkGridTraits.chained c.args.grid.now) (returns-clause-clipped g c)
