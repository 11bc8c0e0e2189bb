-- What is left of a walk over the chunks of a grid.
use Rattle.std.specs.Prelude.{◌≡◌, ◌≢◌, ℕ, ◌<◌, List, [], ◌∷◌, length, map, Option, Some, None, Result, Ok, Err}
use Rattle.std.specs.declared.alloc.AllocError.{AllocError}
use Rattle.zarrs_chunk_base.specs.ArraySubset.{Box}
use Rattle.zarrs_chunk_base.specs.Dimension.{Dimension, grid_sizes}
use Rattle.zarrs_chunk_axes.specs.seen.RowMajorWalk.{lists_left, numbers_at, shape_of}
use Rattle.zarrs_chunks.specs.declared.walks.chunk_boxes.ChunkBoxes.{ChunkBoxes}
use Rattle.zarrs_chunks.specs.declared.walks.chunk_indices.ChunkIndices.{ChunkIndices}
use Rattle.zarrs_chunks.specs.declared.walks.chunk_indices_and_subsets.ChunkIndicesAndSubsets.{ChunkIndicesAndSubsets}
use Rattle.zarrs_chunks.specs.declared.walks.chunk_indices_in_subset.ChunkIndicesInSubset.{ChunkIndicesInSubset}
use Rattle.zarrs_chunks.specs.declared.walks.chunk_subsets.ChunkSubsets.{ChunkSubsets}
use Rattle.zarrs_chunks.specs.Walks.{box_at, boxed, counted_from}

-- the chunks that are still to come
abbrev pub chunks_left : ChunkIndices → List (List ℕ)
chunks_left walk = lists_left walk.walk

-- those of a walk over a box of chunk numbers, counted from the first one of the box; and as they are
abbrev pub offsets_left : ChunkIndicesInSubset → List (List ℕ)
offsets_left walk = lists_left walk.offsets

abbrev pub chunks_in_left : ChunkIndicesInSubset → List (List ℕ)
chunks_in_left walk = map (counted_from walk.chunks.start) (offsets_left walk)

-- over a grid, whose dimensions are known by a function of it
module _ {G : Type 0} (dimensions : G → List Dimension) where
  -- the walk goes through the chunks that its grid counts
  abbrev pub IsOverGrid : ChunkBoxes G → Type 0
  IsOverGrid walk = shape_of walk.walk ≡ grid_sizes (dimensions walk.grid.now)

  -- the chunks that it still comes by, with or without a box
  abbrev pub chunks_ahead : ChunkBoxes G → List (List ℕ)
  chunks_ahead walk = lists_left walk.walk

  -- those of them that have a box
  abbrev pub boxed_left : ChunkBoxes G → List (List ℕ)
  boxed_left walk = boxed (dimensions walk.grid.now) (chunks_ahead walk)

  -- A step goes to the first chunk that has a box, and gives that; none, where no chunk with a box was left; or out of memory, where
  -- a chunk was left, and none is left then.
  abbrev pub StepsTo : ChunkBoxes G → Result (Option Box) AllocError → ChunkBoxes G → Type 0
  StepsTo old (Ok (Some b)) new =
      (boxed_left old ≡ numbers_at new.walk ∷ boxed_left new) × (b ≡ box_at (dimensions old.grid.now) (numbers_at new.walk))
      × (length (chunks_ahead new) < length (chunks_ahead old))
  StepsTo old (Ok None) new = (boxed_left old ≡ []) × (chunks_ahead new ≡ [])
  StepsTo old (Err _) new = (chunks_ahead old ≢ []) × (chunks_ahead new ≡ [])

  -- a step that gives a box, or is out of memory, leaves fewer chunks ahead
  abbrev pub GoesOn : ChunkBoxes G → Result (Option Box) AllocError → ChunkBoxes G → Type 0
  GoesOn old (Ok (Some _)) new = length (chunks_ahead new) < length (chunks_ahead old)
  GoesOn old (Ok None) new = Unit {0}
  GoesOn old (Err _) new = length (chunks_ahead new) < length (chunks_ahead old)

  -- a walk over boxes, or over chunks and boxes, goes through the chunks that its grid counts
  abbrev pub AreBoxesOfGrid : ChunkSubsets G → Type 0
  AreBoxesOfGrid walk = IsOverGrid walk.boxes

  abbrev pub AreChunksOfGrid : ChunkIndicesAndSubsets G → Type 0
  AreChunksOfGrid walk = IsOverGrid walk.boxes

  -- the boxes that are still to come
  abbrev pub boxes_left : ChunkSubsets G → List Box
  boxes_left walk = map (box_at (dimensions walk.boxes.grid.now)) (boxed_left walk.boxes)

  -- the chunks that are still to come, each with its box
  abbrev pub chunks_and_boxes_left : ChunkIndicesAndSubsets G → List (List ℕ × Box)
  chunks_and_boxes_left walk = map (λ chunk. (chunk, box_at (dimensions walk.boxes.grid.now) chunk)) (boxed_left walk.boxes)
