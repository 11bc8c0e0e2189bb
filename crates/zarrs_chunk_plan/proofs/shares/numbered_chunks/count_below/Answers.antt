use Rattle.zarrs_chunk_plan.proofs.Common.{◌∙◌}
use Rattle.zarrs_chunk_plan.proofs.ByNumber.{counted_most}
use Rattle.zarrs_chunk_plan.proofs.shares.numbered_chunks.count_below.Goals as goal

pub returns : goal.returns
returns c = c.unwrap_or.ensures ∙ counted_most _ _ c.count_of.ensures
