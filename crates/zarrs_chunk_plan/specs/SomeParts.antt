-- Some of the parts of a plan, from any one on.
-- Sources: Zarr V3 core, chunk grids and chunk key encodings; the plan is this library's own.
use Rattle.std.specs.Prelude.{◌≡◌, ℕ, ◌-◌, List, length, drop, take, min}
use Rattle.std.specs.List.{AllZip}
use Rattle.zarrs_chunk_base.specs.ArraySubset.{Box}
use Rattle.zarrs_chunk_base.specs.Dimension.{Dimension}
use Rattle.zarrs_chunk_base.specs.Greatest.{greatest}
use Rattle.zarrs_chunks.specs.Walks.{chunks_in}
use Rattle.zarrs_chunk_parts.specs.Plan.{Covers, IsPart}
use Rattle.zarrs_chunk_parts.specs.declared.part.Part.{Part}

-- How many parts the plan of a box has, as far as a number of 64 bits counts them; and of these the parts from the one with the number `first` on, at
-- most so many, one for each chunk in row-major order.
pub record AreSomeParts (ds : List Dimension) (IsKey : List ℕ → List ℕ → Type 0) (subset : Box) (first most in_all : ℕ) (parts : List Part) : Type 0 where
  pub cover : Box
  pub is_cover : Covers ds subset cover
  pub counted : in_all ≡ min (length (chunks_in cover)) greatest
  pub are_parts : AllZip (IsPart ds IsKey subset) (take (min (in_all - first) most) (drop first (chunks_in cover))) parts
