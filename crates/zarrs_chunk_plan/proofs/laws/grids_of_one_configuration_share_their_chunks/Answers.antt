use Rattle.zarrs_chunk_plan.proofs.OneConfiguration.{one_configuration}
use Rattle.zarrs_chunk_plan.proofs.laws.grids_of_one_configuration_share_their_chunks.Goals as goal

pub returns : goal.returns
returns c = one_configuration
