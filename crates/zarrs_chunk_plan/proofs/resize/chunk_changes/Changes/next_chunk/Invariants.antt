use Rattle.zarrs_chunk_plan.proofs.Common.{◌≡◌, ◌-◌, length, changes_to_come}
use Rattle.zarrs_chunk_plan.specs.seen.Changes.{IsSameWalk}
use Rattle.zarrs_chunk_plan.proofs.resize.chunk_changes.Changes.next_chunk.Given as goal

-- nothing came yet
abbrev pub invariant-loop-chunk : goal.invariant-loop-chunk
invariant-loop-chunk g l = (changes_to_come l.self ≡ changes_to_come l.initial.self) × IsSameWalk l.initial.self l.self

-- there are boxes to come
abbrev pub decreases-loop-chunk : goal.decreases-loop-chunk
decreases-loop-chunk g l = length l.self.boxes.items - l.self.next_box
