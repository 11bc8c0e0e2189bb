-- Which chunk numbers and indices a grid counts as its own.
-- Source: zarrs, for which a dimension of size 0 is an unlimited one; the standard has no such dimension.
use Rattle.std.specs.Prelude.{◌≡◌, ◌⊎◌, ℕ, ◌<◌, List}
use Rattle.std.specs.List.{AllZip}
use Rattle.zarrs_chunk_base.specs.Dimension.{Dimension, Holds, InEach}
use Rattle.zarrs_chunk_base.specs.DimensionEdges.{DimensionEdges, equal, listed}
use Rattle.zarrs_chunk_base.specs.Grid.{Grid}

-- the number is below the size, or the size is 0
abbrev pub IsInBounds : ℕ → ℕ → Type 0
IsInBounds size n = (size ≡ 0) ⊎ (n < size)

-- as many numbers as sizes, each in bounds
abbrev pub AreInBounds : List ℕ → List ℕ → Type 0
AreInBounds = AllZip IsInBounds

-- as many numbers as sizes, each below its size
abbrev pub AreBelow : List ℕ → List ℕ → Type 0
AreBelow = AllZip (λ size n. n < size)

-- the index is in bounds of a dimension: of its array size, and where the edges are listed, a chunk holds it too
abbrev pub IsIndexInBounds : Dimension → ℕ → DimensionEdges → Type 0
IsIndexInBounds d index (equal edge) = IsInBounds d.array_size index
IsIndexInBounds d index (listed edges) = IsInBounds d.array_size index × ((chunk : ℕ) × Holds d chunk index)

-- as many indices as dimensions, each in bounds of its dimension
abbrev pub AreIndicesInBounds : Grid → List ℕ → Type 0
AreIndicesInBounds grid indices = InEach IsIndexInBounds grid.dimensions indices grid.edges
