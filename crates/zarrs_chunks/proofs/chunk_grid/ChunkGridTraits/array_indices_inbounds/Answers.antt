use Rattle.zarrs_chunk_axes.proofs.Bounds.{in_bounds_below}
use Rattle.zarrs_chunks.proofs.chunk_grid.ChunkGridTraits.array_indices_inbounds.Goals as goal

pub returns-clause-within : goal.returns-clause-within
returns-clause-within g c = λ below. c.are_in_bounds.ensures.1 (rw c.array_shape.ensures (in_bounds_below _ _ below))
