use Rattle.zarrs_chunk_base.specs.DimensionEdges.{rectangular_edges}
use Rattle.zarrs_chunk_base.proofs.Copies.{all_equal}
use Rattle.zarrs_chunk_base.proofs.json.rectangular_configuration.RectangularChunkGridConfiguration.clone.Goals as goal

pub returns : goal.returns
returns c = all_equal rectangular_edges _ (λ x y same. same) _ _ c.in_ok-clone.ensures.cases.0
