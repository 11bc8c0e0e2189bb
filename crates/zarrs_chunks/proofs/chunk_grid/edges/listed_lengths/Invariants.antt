use Rattle.std.proofs.Common.{◌≡◌, map, take}
use Rattle.zarrs_chunk_base.specs.DimensionEdges.{rectangular_edges}
use Rattle.zarrs_chunk_base.specs.RunLength.{rectilinear_edges}
use Rattle.zarrs_chunks.proofs.chunk_grid.edges.listed_lengths.Given as goal

-- the lengths so far have the edges of the configurations so far
abbrev pub invariant-loop-configuration : goal.invariant-loop-configuration
invariant-loop-configuration l =
    map rectilinear_edges l.lengths.items ≡ map rectangular_edges (take l.configuration-index l.configurations)
