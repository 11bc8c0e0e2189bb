use Rattle.std.proofs.Common.{refl}
use Rattle.zarrs_chunk_base.specs.DimensionEdges.{rectangular_edges}
use Rattle.zarrs_chunk_base.proofs.Copies.{all_equal}
use Rattle.zarrs_chunks.proofs.chunk_grid.rectangular.RectangularChunkGridCreateError.new.Goals as goal

pub returns : goal.returns
returns c = (refl, all_equal rectangular_edges _ (λ x y same. same) _ _ c.in_ok-to_vec.ensures.ok)
