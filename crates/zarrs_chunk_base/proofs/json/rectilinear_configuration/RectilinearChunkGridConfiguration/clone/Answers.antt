use Rattle.std.proofs.Common.{◌∙◌, rules}
use Rattle.zarrs_chunk_base.specs.RunLength.{IsSameChunkEdgeLengths, lengths_of}
use Rattle.zarrs_chunk_base.proofs.Copies.{all_equal, same_lengths}
use Rattle.zarrs_chunk_base.proofs.json.rectilinear_configuration.RectilinearChunkGridConfiguration.clone.Goals as goal

pub returns : goal.returns
returns c = all_equal lengths_of (λ lengths copy. IsSameChunkEdgeLengths copy lengths) same_lengths _ _ c.in_ok-clone.ensures.cases.0 ∙ search rules
