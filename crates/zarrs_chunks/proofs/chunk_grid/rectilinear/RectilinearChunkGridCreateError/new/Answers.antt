use Rattle.std.proofs.Common.{refl}
use Rattle.zarrs_chunk_base.specs.RunLength.{IsSameChunkEdgeLengths}
use Rattle.zarrs_chunk_base.proofs.Copies.{originals}
use Rattle.zarrs_chunks.proofs.chunk_grid.rectilinear.RectilinearChunkGridCreateError.new.Goals as goal

pub returns : goal.returns
returns c = (refl, originals IsSameChunkEdgeLengths _ _ c.in_ok-to_vec.ensures.ok)
