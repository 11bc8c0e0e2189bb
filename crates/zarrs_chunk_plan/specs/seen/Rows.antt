-- The byte ranges of a box in the rows of a chunk, from its innermost dimension on.
use Rattle.std.specs.Prelude.{◌≡◌, ℕ, ◌*◌, ◌<◌, ◌≤◌, List, MatchOption, Option}
use Rattle.zarrs_chunk_base.specs.Greatest.{greatest}
use Rattle.zarrs_chunk_plan.specs.Counts.{product}
use Rattle.zarrs_chunk_plan.specs.Strided.{form_of, has_all, strided}
use Rattle.zarrs_chunk_plan.specs.declared.bytes.ranges.ByteRanges.{ByteRanges}
use Rattle.zarrs_chunk_plan.specs.declared.bytes.ranges.Rows.{Rows}

-- these are the ranges of a box along some inner dimensions, in row-major order: the first one begins in the row
pub record HasRanges (item : ℕ) (edges start shape : List ℕ) (rows : Rows) : Type 0 where
  pub row_is : rows.row ≡ product edges * item
  pub fits : rows.row ≤ greatest
  pub within : rows.ranges.first < rows.row
  pub form : form_of rows.ranges ≡ strided item edges start shape
  pub whole_is : rows.whole ≡ has_all edges shape

-- the ranges of a box that isn't empty, in a row-major chunk; `None` if no number counts the chunk's bytes
abbrev pub IsStrided : (item : ℕ) (edges start shape : List ℕ) → Option ByteRanges → Type 0
IsStrided item edges start shape found =
    MatchOption found (greatest < product edges * item)
    (λ ranges. (product edges * item ≤ greatest) × (form_of ranges ≡ strided item edges start shape))
