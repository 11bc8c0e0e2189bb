use Rattle.zarrs_chunk_plan.proofs.Common.{◌≡◌, min, take, greatest, product}
use Rattle.zarrs_chunk_plan.proofs.bytes.range_starts.saturating_product.Given as goal

-- the product of the numbers so far
abbrev pub invariant-loop-number : goal.invariant-loop-number
invariant-loop-number l = l.held ≡ min greatest (product (take l.number-index l.numbers))
