use Rattle.programs.proofs.chunkplan.Common.{◌≡◌, map, take, product, AreDigits, value}
use Rattle.zarrs_chunk_tasks.specs.Counts.{count_along}
use Rattle.programs.proofs.chunkplan.product.count_text.Given as goal

-- the digits are those of the product of the counts so far
abbrev pub invariant-loop-counts : goal.invariant-loop-counts
invariant-loop-counts l =
    AreDigits l.digits.items × (value l.digits.items ≡ product (map (count_along l.count) (take l.counts-index l.along)))
