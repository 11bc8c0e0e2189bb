-- The sizes that are tried along each dimension.
use Rattle.std.specs.Prelude.{◌≡◌, ℕ, ◌≤◌, IsTrue, List, length}
use Rattle.std.specs.List.{AllByRecursion, AllZip}
use Rattle.zarrs_chunk_base.specs.ArraySubset.{Box, IsEmptyBox, ends, lasts}
use Rattle.zarrs_chunk_base.specs.Dimension.{Dimension}
use Rattle.zarrs_chunks.specs.Subsets.{IsCover}
use Rattle.zarrs_chunk_plan.specs.Counts.{product}
use Rattle.zarrs_chunk_tasks.specs.Cheapest.{most_choices, most_sizes}
use Rattle.zarrs_chunk_tasks.specs.declared.tried.Tried.{Tried}
use Rattle.zarrs_chunk_tasks.specs.seen.Choices.{rows_of}
use Rattle.zarrs_chunk_tasks.specs.seen.Sizes.{AreSizes, sides}

-- The sizes are tried for groups of the target's chunks that hold some of a box of elements, which begins at `first` in the source's array.
pub record AreTriedOver (source target : List Dimension) (first : List ℕ) (elements : Box) (tried : Tried) : Type 0 where
  pub some : ¬ IsEmptyBox elements
  pub cover : Box
  pub is_cover : IsCover target elements cover
  pub long : length (sides source target first elements.start elements.shape cover.start (lasts cover.start cover.shape)) ≡ length target
  pub are_sizes : AllZip (AreSizes tried.is_exact) (sides source target first elements.start elements.shape cover.start (lasts cover.start cover.shape))
      (rows_of tried.rows.items)
  pub few : AllByRecursion (λ n. n ≤ most_sizes) (ends cover.start cover.shape) → product (ends cover.start cover.shape) ≤ most_choices
      → IsTrue tried.is_exact
