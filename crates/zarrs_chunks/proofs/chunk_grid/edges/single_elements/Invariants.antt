use Rattle.std.proofs.Common.{◌≡◌, map, take}
use Rattle.std.specs.Int.NonZero.{non_zero_u64_get}
use Rattle.zarrs_chunk_base.specs.RunLength.{element_of, single}
use Rattle.zarrs_chunks.proofs.chunk_grid.edges.single_elements.Given as goal

-- the elements so far are those of the edges so far
abbrev pub invariant-loop-edge : goal.invariant-loop-edge
invariant-loop-edge l = map element_of l.elements.items ≡ map (λ edge. single (non_zero_u64_get edge)) (take l.edge-index l.edges)
