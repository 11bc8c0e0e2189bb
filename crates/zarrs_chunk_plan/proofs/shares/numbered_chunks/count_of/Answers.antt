use Rattle.zarrs_chunk_plan.proofs.Common.{length, sym, arith, row_major}
use Rattle.zarrs_chunk_plan.proofs.ByNumber.{counted_none, counted_some}
use Rattle.zarrs_chunk_plan.proofs.shares.numbered_chunks.count_of.Goals as goal

pub returns-then-count : goal.returns-then-count
returns-then-count c = sym (counted_some (length (row_major c.args.shape.now)) c.long_count-count.result c.long_count-count.ensures (omega arith))

pub returns-else-count : goal.returns-else-count
returns-else-count c = sym (counted_none (length (row_major c.args.shape.now)) c.long_count-count.result c.long_count-count.ensures (omega arith))
