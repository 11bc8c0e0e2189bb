use Rattle.programs.proofs.chunkplan.Common.{non_zero_u64_get, within_starts}
use Rattle.zarrs_chunk_plan.proofs.StridedForms.{none_where_out}
use Rattle.programs.proofs.chunkplan.part_ranges.part_ranges.Goals as goal

pub returns-in-Err-Refused-clause-form : goal.returns-in-Err-Refused-clause-form
returns-in-Err-Refused-clause-form c =
    let part = c.args.part.now in
    let refused = rw (c.in-Err-Refused.field-0-is, c.as_slice-edges.ensures) at c.in-Err-Refused.ensures.refused in
    none_where_out (non_zero_u64_get c.args.wanted.now.item_size) c.args.wanted.now.order part.shape.items part.in_chunk.start part.in_chunk.shape
    (λ lies. refused.0 (within_starts part.in_chunk.start part.in_chunk.shape part.shape.items lies))
