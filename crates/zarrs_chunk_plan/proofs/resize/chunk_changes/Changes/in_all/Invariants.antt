use Rattle.zarrs_chunk_plan.proofs.Common.{◌≡◌, ◌+◌, ℕ, drop, length, counted, chunks_of_boxes}
use Rattle.zarrs_chunk_plan.proofs.resize.chunk_changes.Changes.in_all.Given as goal

-- so many chunks were counted, and the others lie in the boxes that are left
abbrev pub invariant-loop-chunks : goal.invariant-loop-chunks
invariant-loop-chunks g l =
    (n : ℕ) × (l.count ≡ counted n)
    × (n + length (chunks_of_boxes (drop l.chunks-index l.self.boxes.items)) ≡ length (chunks_of_boxes l.self.boxes.items))
