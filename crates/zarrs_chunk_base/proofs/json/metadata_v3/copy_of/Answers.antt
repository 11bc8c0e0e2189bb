use Rattle.zarrs_chunk_base.proofs.Copies.{copied_members}
use Rattle.zarrs_chunk_base.proofs.json.metadata_v3.copy_of.Goals as goal

pub returns : goal.returns
returns c = copied_members _ _ c.in_ok-copy.ensures.cases
