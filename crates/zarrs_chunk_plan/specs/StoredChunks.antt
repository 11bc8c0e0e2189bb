-- Which chunks of an array a store has, by the keys that it lists.
-- Sources: Zarr V3 core, chunk grids and chunk key encodings; keys as marks of what is stored are this library's own.
use Rattle.std.specs.Prelude.{ℕ, List}
use Rattle.std.specs.List.{Contains}
use Rattle.zarrs_chunk_base.specs.Dimension.{Dimension}
use Rattle.zarrs_chunk_parts.specs.Plan.{Meets}
use Rattle.zarrs_chunk_plan.specs.ArrayBoxes.{array_box}

-- the key is that of a chunk that holds elements of the array
abbrev pub IsOfArray : List Dimension → (IsKeyOf : List ℕ → List ℕ → Type 0) → (key : List ℕ) → Type 0
IsOfArray ds IsKeyOf key = (chunk : List ℕ) × Meets ds (array_box ds) chunk × IsKeyOf chunk key

-- one of these keys is the chunk's
abbrev pub IsListed : (IsKeyOf : List ℕ → List ℕ → Type 0) → (keys : List (List ℕ)) → (chunk : List ℕ) → Type 0
IsListed IsKeyOf keys chunk = (key : List ℕ) × Contains keys key × IsKeyOf chunk key
