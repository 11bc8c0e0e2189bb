use Rattle.zarrs_chunk_plan.proofs.Common.{◌≡◌, ◌-◌, ◌^◌, length, min, take, row_major}
use Rattle.zarrs_chunk_plan.proofs.shares.numbered_chunks.long_count.Given as goal

-- so many lists are below the sizes so far, as far as 128 bits count them
abbrev pub invariant-loop-size : goal.invariant-loop-size
invariant-loop-size l = l.count ≡ min (length (row_major (take l.size-index l.shape))) (2 ^ 128 - 1)
