-- What is left of a walk over some of the chunks in a box of chunk numbers.
use Rattle.std.specs.Prelude.{◌≡◌, ◌≢◌, ℕ, List, [], map, Option, Result}
use Rattle.std.specs.declared.alloc.AllocError.{AllocError}
use Rattle.smallvec.specs.SmallVec.{SmallVec}
use Rattle.zarrs_chunk_base.specs.ArraySubset.{Box}
use Rattle.zarrs_chunks.specs.Walks.{Gives, chunks_in, counted_from}
use Rattle.zarrs_chunk_plan.specs.declared.shares.chunk_iter.ChunkIter.{ChunkIter}
use Rattle.zarrs_chunk_plan.specs.seen.Between.{lists_between}

-- the box of chunk numbers
abbrev pub box_of : ChunkIter → Box
box_of walk = walk.chunks

-- the chunks that are still to come, counted from the first one of the box; and as they are
abbrev pub offsets_between : ChunkIter → List (List ℕ)
offsets_between walk = lists_between walk.chunks.shape walk.next.items walk.end walk.over

abbrev pub chunks_between : ChunkIter → List (List ℕ)
chunks_between walk = map (counted_from walk.chunks.start) (offsets_between walk)

-- all chunks of the box
abbrev pub all_between : ChunkIter → List (List ℕ)
all_between walk = chunks_in (box_of walk)

-- `next` gives the first of the chunks to come, and the others are to come then; nothing, at the end; or out of memory. The box stays.
pub record GivesChunk (before : ChunkIter) (given : Option (Result (SmallVec ℕ) AllocError)) (after : ChunkIter) : Type 0 where
  pub gives : Gives offsets_between chunks_between (λ chunk. chunk.items) (λ offsets. offsets ≢ []) before given after
  pub chunks : box_of after ≡ box_of before
