use Rattle.std.proofs.Common.{◌≡◌, ◌-◌, map, take}
use Rattle.zarrs_chunk_base.specs.ArraySubset.{ends}
use Rattle.zarrs_chunk_base.specs.Greatest.{AllFit}
use Rattle.zarrs_chunk_base.proofs.array_subset.ArraySubset.new_with_ranges.Given as goal

abbrev pub invariant-loop-range : goal.invariant-loop-range
invariant-loop-range l =
    (l.start.items ≡ map (λ r. r.start) (take l.range-index l.ranges))
    × (l.shape.items ≡ map (λ r. r.end - r.start) (take l.range-index l.ranges))
    × AllFit (ends l.start.items l.shape.items)
