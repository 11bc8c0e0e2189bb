-- The chunks that a grid counts, one after another, their boxes, and what a walk gives of them.
-- Source: Zarr V3 core, chunk grids and row-major ("C") order; the walks are this library's own.
use Rattle.std.specs.Prelude.{◌≡◌, ℕ, ◌+◌, ◌-◌, ◌&&◌, Bool, true, List, [], ◌∷◌, map, nat_le, Option, Some, None, Result, Ok, Err}
use Rattle.std.specs.List.{filter}
use Rattle.std.specs.declared.alloc.AllocError.{AllocError}
use Rattle.zarrs_chunk_base.specs.ArraySubset.{Box}
use Rattle.zarrs_chunk_base.specs.Dimension.{Dimension, grid_sizes}
use Rattle.zarrs_chunk_base.specs.Greatest.{greatest}
use Rattle.zarrs_chunk_axes.specs.RowMajor.{row_major}

-- the chunks that are counted, in row-major order
abbrev pub chunks_of : List Dimension → List (List ℕ)
chunks_of ds = row_major (grid_sizes ds)

-- numbers that are counted from a start, as they are from 0
abbrev pub counted_from : List ℕ → List ℕ → List ℕ
counted_from (first ∷ start) (n ∷ numbers) = (first + n) ∷ counted_from start numbers
counted_from _ _ = []

-- the chunks in a box of chunk numbers, in row-major order
abbrev pub chunks_in : Box → List (List ℕ)
chunks_in b = map (counted_from b.start) (row_major b.shape)

-- the chunk ends at the greatest number or before it, in each dimension
abbrev pub ends_within : List Dimension → List ℕ → Bool
ends_within (d ∷ ds) (c ∷ chunk) = nat_le (d.end c) greatest && ends_within ds chunk
ends_within _ _ = true

-- those of the chunks that do; the others have no box
abbrev pub boxed : List Dimension → List (List ℕ) → List (List ℕ)
boxed ds = filter (ends_within ds)

-- where a chunk starts, and how long it is, in each dimension
abbrev pub starts_at : List Dimension → List ℕ → List ℕ
starts_at (d ∷ ds) (c ∷ chunk) = d.start c ∷ starts_at ds chunk
starts_at _ _ = []

abbrev pub lengths_at : List Dimension → List ℕ → List ℕ
lengths_at (d ∷ ds) (c ∷ chunk) = (d.end c - d.start c) ∷ lengths_at ds chunk
lengths_at _ _ = []

-- the box of a chunk
abbrev pub box_at : List Dimension → List ℕ → Box
box_at ds chunk = record { start = starts_at ds chunk; shape = lengths_at ds chunk }

-- What `next` of a walk gives, by what is left before and after it, and by the chunks that it still comes by: the first of what was left, as `view`
-- shows it, and the others are left then; nothing, where nothing was left; or out of memory, where the chunks ahead may need some.
-- After the last two nothing is left, and no chunk is ahead that could need memory.
abbrev pub Gives : {W T X Y : Type 0} → (W → List Y) → (W → List X) → (T → X) → (List Y → Type 0) → W → Option (Result T AllocError) → W → Type 0
Gives ahead left view MayFail before (Some (Ok item)) after = left before ≡ view item ∷ left after
Gives ahead left view MayFail before (Some (Err _)) after = MayFail (ahead before) × (left after ≡ []) × (ahead after ≡ [])
Gives ahead left view MayFail before None after = (left before ≡ []) × (left after ≡ []) × (ahead after ≡ [])
