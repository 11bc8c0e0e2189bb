use Rattle.std.proofs.Common.{◌≡◌, map, take}
use Rattle.std.specs.Int.NonZero.{non_zero_u64_get}
use Rattle.zarrs_chunk_base.specs.DimensionEdges.{equal}
use Rattle.zarrs_chunk_base.specs.RunLength.{rectilinear_edges}
use Rattle.zarrs_chunks.proofs.chunk_grid.edges.scalar_lengths.Given as goal

-- the lengths so far are the edges so far
abbrev pub invariant-loop-edge : goal.invariant-loop-edge
invariant-loop-edge l = map rectilinear_edges l.lengths.items ≡ map (λ edge. equal (non_zero_u64_get edge)) (take l.edge-index l.edges)
