-- Why a start and a shape make no box.
use Rattle.std.specs.Prelude.{◌≡◌, ◌≢◌, ℕ, ◌<◌, ◌≤◌, List, length, slice_index}
use Rattle.zarrs_chunk_base.specs.ArraySubset.{ends}
use Rattle.zarrs_chunk_base.specs.Greatest.{greatest}
use Rattle.zarrs_chunk_base.specs.Refusal.{TellsLengths}
use Rattle.zarrs_chunk_base.specs.declared.array_subset_error.ArraySubsetError.{ArraySubsetError}
use Rattle.zarrs_chunk_base.specs.declared.array_subset_error.ArraySubsetError.TheVariants.{Lengths, End}

-- the dimension is the first whose end is past the greatest number
pub record IsFirstPast (numbers : List ℕ) (dimension : ℕ) : Type 0 where
  pub counted : dimension < length numbers
  pub past : greatest < slice_index numbers dimension
  pub before : (k : ℕ) → k < dimension → slice_index numbers k ≤ greatest

-- unequal lengths come before an end that is past the greatest number
abbrev pub IsBoxFault : List ℕ → List ℕ → ArraySubsetError → Type 0
IsBoxFault start shape (Lengths e) = (length shape ≢ length start) × TellsLengths (length shape) (length start) e
IsBoxFault start shape (End e) = (length shape ≡ length start) × IsFirstPast (ends start shape) e.dimension
