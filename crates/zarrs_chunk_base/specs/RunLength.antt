-- The chunk edges of one dimension as run-length elements.
-- Source: the `rectilinear` extension of zarr-extensions.
use Rattle.std.specs.Prelude.{◌≡◌, ◌≢◌, ◌<◌, ℕ, List, [], ◌∷◌, ◌++◌, map, replicate, slice_index}
use Rattle.std.specs.List.{AllByRecursion}
use Rattle.std.specs.Int.NonZero.{non_zero_u64_get}
use Rattle.zarrs_chunk_base.specs.DimensionEdges.{DimensionEdges, equal, listed}
use Rattle.zarrs_chunk_base.specs.declared.run_length_element.RunLengthElement.{RunLengthElement}
use Rattle.zarrs_chunk_base.specs.declared.run_length_element.RunLengthElement.TheVariants.{Single, Repeated}
use Rattle.zarrs_chunk_base.specs.declared.chunk_edge_lengths.ChunkEdgeLengths.{ChunkEdgeLengths}
use Rattle.zarrs_chunk_base.specs.declared.chunk_edge_lengths.ChunkEdgeLengths.TheVariants.{Scalar, Varying}

-- an element, without where it lies in memory: one edge, or an edge and how many chunks in a row have it
pub data Element : Type 0 where
  single : (edge : ℕ) → Element
  repeated : (edge count : ℕ) → Element

-- what a value stands for (of a pair the edge comes first, then the count)
abbrev pub element_of : RunLengthElement → Element
element_of (Single edge) = single (non_zero_u64_get edge)
element_of (Repeated pair) =
    let numbers = map non_zero_u64_get pair in
    let edge = slice_index numbers 0 in
    let count = slice_index numbers 1 in
    repeated edge count

-- the edges that an element stands for: one, or so many equal ones
abbrev pub edges_of_element : Element → List ℕ
edges_of_element (single edge) = edge ∷ []
edges_of_element (repeated edge count) = replicate count edge

-- the edges that elements stand for, joined in order
abbrev pub joined : List Element → List ℕ
joined [] = []
joined (element ∷ elements) = edges_of_element element ++ joined elements

-- the edges that a value stands for
abbrev pub element_edges : RunLengthElement → List ℕ
element_edges element = edges_of_element (element_of element)

-- the edges that values stand for
abbrev pub expansion : List RunLengthElement → List ℕ
expansion elements = joined (map element_of elements)

-- the edges of a dimension, as elements: one for all chunks, or those of each element after those of the one before
pub data EdgeLengths : Type 0 where
  scalar : (edge : ℕ) → EdgeLengths
  varying : (elements : List Element) → EdgeLengths

-- what a value stands for
abbrev pub lengths_of : ChunkEdgeLengths → EdgeLengths
lengths_of (Scalar edge) = scalar (non_zero_u64_get edge)
lengths_of (Varying elements) = varying (map element_of elements.items)

-- the edges that they stand for
abbrev pub edges_of_lengths : EdgeLengths → DimensionEdges
edges_of_lengths (scalar edge) = equal edge
edges_of_lengths (varying elements) = listed (joined elements)

-- the edges of a dimension of a `rectilinear` grid
abbrev pub rectilinear_edges : ChunkEdgeLengths → DimensionEdges
rectilinear_edges lengths = edges_of_lengths (lengths_of lengths)

-- ---- the run-length form of a list of edges

-- the edge of an element
abbrev pub edge_in : Element → ℕ
edge_in (single edge) = edge
edge_in (repeated edge count) = edge

-- a pair counts more than one chunk
abbrev pub IsNoPairOfOne : Element → Type 0
IsNoPairOfOne (single edge) = Unit {0}
IsNoPairOfOne (repeated edge count) = 1 < count

-- no two elements that stand side by side have one edge
abbrev pub AreApart : List Element → Type 0
AreApart [] = Unit {0}
AreApart (e ∷ []) = Unit {0}
AreApart (e ∷ f ∷ elements) = (edge_in e ≢ edge_in f) × AreApart (f ∷ elements)

-- elements as a run-length form has them: each run of equal edges is one element, a single edge where it counts one chunk
pub record IsRunLengthForm (elements : List Element) : Type 0 where
  pub no_pair_of_one : AllByRecursion IsNoPairOfOne elements
  pub apart : AreApart elements

-- one edge, or elements in run-length form
abbrev pub IsWrittenLengths : EdgeLengths → Type 0
IsWrittenLengths (scalar edge) = Unit {0}
IsWrittenLengths (varying elements) = IsRunLengthForm elements

-- the same edge, or the same elements
abbrev pub IsSameChunkEdgeLengths : ChunkEdgeLengths → ChunkEdgeLengths → Type 0
IsSameChunkEdgeLengths (Scalar edge) (Scalar other) = edge ≡ other
IsSameChunkEdgeLengths (Varying elements) (Varying others) = elements.items ≡ others.items
IsSameChunkEdgeLengths _ _ = ⊥
