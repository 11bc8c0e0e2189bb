-- The plan of reading a box of elements: its parts, one for each chunk that holds some of it.
-- Sources: Zarr V3 core, chunk grids and chunk key encodings; the plan is this library's own.
use Rattle.std.specs.Prelude.{◌≡◌, ◌↔◌, ℕ, IsTrue, List}
use Rattle.std.specs.List.{AllZip}
use Rattle.zarrs_chunk_base.specs.ArraySubset.{Box, IsBox, IsInside}
use Rattle.zarrs_chunk_base.specs.Dimension.{Dimension, InBox, IsOrigin, IsShape, array_sizes}
use Rattle.zarrs_chunk_axes.specs.InBounds.{AreBelow}
use Rattle.zarrs_chunks.specs.Walks.{chunks_in, counted_from}
use Rattle.zarrs_chunk_parts.specs.declared.part.Part.{Part}

-- the chunk holds the element, and it is one of the box
abbrev pub IsCommon : List Dimension → Box → List ℕ → List ℕ → Type 0
IsCommon ds subset chunk index = InBox ds chunk index × IsInside subset index

-- the chunk holds some element of the box
abbrev pub Meets : List Dimension → Box → List ℕ → Type 0
Meets ds subset chunk = (index : List ℕ) × InBox ds chunk index × IsInside subset index

-- the second box is the first one, counted from a start
pub record IsCountedFrom (first : List ℕ) (b counted : Box) : Type 0 where
  pub is_box : IsBox counted
  pub start : b.start ≡ counted_from first counted.start
  pub shape : b.shape ≡ counted.shape

-- the box has all elements of the array that the chunk holds
abbrev pub HasAllOf : List Dimension → Box → List ℕ → Type 0
HasAllOf ds subset chunk = (index : List ℕ) → InBox ds chunk index → AreBelow (array_sizes ds) index → IsInside subset index

-- The elements that the chunk and the box share are those of one box; counted from the chunk's origin it is
-- the one given, and counted from the start of the box the other.
pub record AreShared (ds : List Dimension) (subset : Box) (chunk : List ℕ) (in_chunk in_selection : Box) : Type 0 where
  pub shared : Box
  pub is_box : IsBox shared
  pub elements : (index : List ℕ) → IsInside shared index ↔ IsCommon ds subset chunk index
  pub origin : List ℕ
  pub is_origin : IsOrigin ds chunk origin
  pub from_chunk : IsCountedFrom origin shared in_chunk
  pub from_subset : IsCountedFrom subset.start shared in_selection

-- the part of a chunk: that chunk, a key of it, its shape, whether the box has all that it has of the array, and the elements that it shares with it
pub record IsPart (ds : List Dimension) (IsKey : List ℕ → List ℕ → Type 0) (subset : Box) (chunk : List ℕ) (part : Part) : Type 0 where
  pub numbers : part.chunk.items ≡ chunk
  pub key : IsKey chunk part.key
  pub shape : IsShape ds chunk part.shape.items
  pub whole : IsTrue part.whole ↔ HasAllOf ds subset chunk
  pub boxes : AreShared ds subset chunk part.in_chunk part.in_selection

-- The box of chunk numbers covers a box of elements: inside are exactly the chunks that hold some of them, and each of them lies in a chunk.
pub record Covers (ds : List Dimension) (subset cover : Box) : Type 0 where
  pub is_box : IsBox cover
  pub named : (chunk : List ℕ) → IsInside cover chunk ↔ Meets ds subset chunk
  pub homes : (index : List ℕ) → IsInside subset index → (chunk : List ℕ) × InBox ds chunk index

-- the plan: a part for each chunk of the cover, in row-major order of the chunks
pub record IsPlan (ds : List Dimension) (IsKey : List ℕ → List ℕ → Type 0) (subset : Box) (parts : List Part) : Type 0 where
  pub cover : Box
  pub is_cover : Covers ds subset cover
  pub are_parts : AllZip (IsPart ds IsKey subset) (chunks_in cover) parts

-- The part has the element at an index, and its place in the chunk: both lie as far behind the first of the part's box.
pub record HasElement (subset : Box) (part : Part) (index place : List ℕ) : Type 0 where
  pub steps : List ℕ
  pub below : AreBelow part.in_chunk.shape steps
  pub place_is : place ≡ counted_from part.in_chunk.start steps
  pub index_is : index ≡ counted_from subset.start (counted_from part.in_selection.start steps)
