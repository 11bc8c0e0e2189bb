-- Groups of neighbouring chunks, and what a group holds of a box of elements. A group joins k chunks along a dimension.
-- Source: Zarr V3 core, chunk grids; groups are this library's own.
use Rattle.std.specs.Prelude.{◌≡◌, ◌↔◌, ℕ, ◌/◌, List, [], ◌∷◌}
use Rattle.zarrs_chunk_base.specs.ArraySubset.{Box, IsBox, IsInside}
use Rattle.zarrs_chunk_base.specs.Dimension.{Dimension, Holds}

-- Group t joins k neighbouring chunks along a dimension: each chunk c for which c / k, rounded down, is t. One of them holds the index i.
pub record LiesInGroup (d : Dimension) (k t i : ℕ) : Type 0 where
  pub chunk : ℕ
  pub holds : Holds d chunk i
  pub joined : chunk / k ≡ t

-- the group holds the element: along each dimension one of its chunks holds the index
abbrev pub InGroup : List Dimension → (each group index : List ℕ) → Type 0
InGroup [] [] [] [] = Unit {0}
InGroup (d ∷ ds) (k ∷ each) (t ∷ group) (i ∷ index) = LiesInGroup d k t i × InGroup ds each group index
InGroup _ _ _ _ = ⊥

-- the group holds some element of the box
abbrev pub HoldsSomeOf : List Dimension → (each : List ℕ) → Box → (group : List ℕ) → Type 0
HoldsSomeOf ds each b group = (index : List ℕ) × IsInside b index × InGroup ds each group index

-- the buffer is what the group holds of the box, as a box of the same array
pub record IsBuffer (ds : List Dimension) (each : List ℕ) (b : Box) (group : List ℕ) (buffer : Box) : Type 0 where
  pub is_box : IsBox buffer
  pub elements : (index : List ℕ) → IsInside buffer index ↔ (IsInside b index × InGroup ds each group index)
