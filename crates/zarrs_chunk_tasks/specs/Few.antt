-- How many chunks along a dimension are too many to choose the tasks of a copy, or to count them.
-- Source: this library's own.
use Rattle.std.specs.Prelude.{◌⊎◌, ◌<◌, ℕ, List}
use Rattle.std.specs.List.{Contains}
use Rattle.zarrs_chunk_base.specs.ArraySubset.{Box}
use Rattle.zarrs_chunk_base.specs.Dimension.{Dimension}
use Rattle.zarrs_chunks.specs.Subsets.{IsCover}

-- up to how many chunks along a dimension tasks are chosen in any case, and up to how many they are counted
abbrev pub most_to_choose : ℕ
most_to_choose = 131072

abbrev pub most_to_count : ℕ
most_to_count = 1048576

-- along some dimension more than `most` chunks hold some of the box
abbrev pub HasMany : (most : ℕ) → List Dimension → Box → Type 0
HasMany most ds b = (cover : Box) × IsCover ds b cover × ((n : ℕ) × Contains cover.shape n × (most < n))

-- that holds of the region in the source, or of the moved box in the target
abbrev pub HaveMany : (most : ℕ) → (source target : List Dimension) → (region moved : Box) → Type 0
HaveMany most source target region moved = HasMany most source region ⊎ HasMany most target moved
