-- What the look-ups of a chunk grid answer, over its dimensions.
-- Sources: Zarr V3 core, chunk grids and the regular grid; ZEP 3, variable chunks.
use Rattle.std.specs.Prelude.{◌≡◌, ◌≢◌, ◌⊎◌, ℕ, ◌+◌, ◌-◌, ◌<◌, ◌≤◌, Bool, true, false, List, [], ◌∷◌, length, map, Option, Result, Ok, Err, Vec}
use Rattle.std.specs.List.{AllByRecursion}
use Rattle.std.specs.Int.NonZero.{non_zero_u64_get}
use Rattle.std.specs.declared.alloc.Global.{Global}
use Rattle.std.specs.declared.num.NonZeroU64.{NonZeroU64}
use Rattle.zarrs_chunk_base.specs.declared.incompatible_dimensionality_error.IncompatibleDimensionalityError.{IncompatibleDimensionalityError}
use Rattle.zarrs_chunk_base.specs.declared.refusal.Refusal.{Refusal}
use Rattle.zarrs_chunk_base.specs.declared.refusal.Refusal.TheVariants.{Refused, Memory}
use Rattle.zarrs_chunk_base.specs.ArraySubset.{Box, ends, lasts}
use Rattle.zarrs_chunk_base.specs.Dimension.{Dimension, HasEdge, Holds, InBox, IsChunk, IsOrigin, IsPlace, IsShape, StartsAt}
use Rattle.zarrs_chunk_base.specs.Greatest.{AllFit, greatest}
use Rattle.zarrs_chunk_base.specs.Refusal.{Answers, TellsLengths}

-- the index lies at place p of the chunk that holds it
pub record LiesAt (d : Dimension) (i p : ℕ) : Type 0 where
  pub chunk : ℕ
  pub holds : Holds d chunk i
  pub behind : d.start chunk + p ≡ i

-- chunk c starts at a number, is so many elements long, and ends at the greatest number or before
pub record HasRange (d : Dimension) (c : ℕ) (range : ℕ × ℕ) : Type 0 where
  pub start : StartsAt d c range.0
  pub edge : HasEdge d c range.1
  pub fits : range.0 + range.1 ≤ greatest

-- a look-up's result: a list of numbers, none, or why it is refused
abbrev pub Looked : Type 0 → Type 0
Looked X = Result (Option (Vec X Global)) (Refusal IncompatibleDimensionalityError)

-- the shape of a chunk, and none where the list names no chunk
abbrev pub AnswersShape : List Dimension → List ℕ → Looked NonZeroU64 → Type 0
AnswersShape ds chunk = Answers (length chunk) (length ds) (λ shape. IsShape ds chunk (map non_zero_u64_get shape.items)) (¬ IsChunk ds chunk)

-- the same in plain numbers
abbrev pub AnswersShapeNumbers : List Dimension → List ℕ → Looked ℕ → Type 0
AnswersShapeNumbers ds chunk = Answers (length chunk) (length ds) (λ shape. IsShape ds chunk shape.items) (¬ IsChunk ds chunk)

-- the origin of a chunk, and none where the list names no chunk or one that starts past the greatest number
abbrev pub AnswersOrigin : List Dimension → List ℕ → Looked ℕ → Type 0
AnswersOrigin ds chunk =
    Answers (length chunk) (length ds) (λ origin. IsOrigin ds chunk origin.items) ((origin : List ℕ) → IsOrigin ds chunk origin → ¬ AllFit origin)

-- the chunk whose box holds the index, and none where no box does
abbrev pub AnswersChunk : List Dimension → List ℕ → Looked ℕ → Type 0
AnswersChunk ds index = Answers (length index) (length ds) (λ chunk. InBox ds chunk.items index) ((chunk : List ℕ) → ¬ InBox ds chunk index)

-- the index's place in the chunk whose box holds it, and none where no box does
abbrev pub AnswersPlace : List Dimension → List ℕ → Looked ℕ → Type 0
AnswersPlace ds index =
    Answers (length index) (length ds) (λ place. (chunk : List ℕ) × InBox ds chunk index × IsPlace ds chunk index place.items)
    ((chunk : List ℕ) → ¬ InBox ds chunk index)

-- where a chunk starts and how many elements long it is, in each dimension, where it ends at the greatest number or before
pub record AreRanges (ds : List Dimension) (chunk starts sizes : List ℕ) : Type 0 where
  pub origin : IsOrigin ds chunk starts
  pub shape : IsShape ds chunk sizes
  pub fits : AllFit (ends starts sizes)

-- the two lists; none where the list names no chunk or one that ends past the
-- greatest number
abbrev pub AnswersRanges : List Dimension → List ℕ → Result (Option (Vec ℕ Global × Vec ℕ Global)) (Refusal IncompatibleDimensionalityError) → Type 0
AnswersRanges ds chunk =
    Answers (length chunk) (length ds) (λ ranges. AreRanges ds chunk ranges.0.items ranges.1.items)
    ((starts sizes : List ℕ) → ¬ AreRanges ds chunk starts sizes)

-- in each dimension how many chunks there are from a first one to a last one
abbrev pub counts_between : (firsts lasts : List ℕ) → List ℕ
counts_between (f ∷ firsts) (l ∷ lasts) = (l - f + 1) ∷ counts_between firsts lasts
counts_between _ _ = []

-- the chunks over a box: that of its first element, and how many there are in each dimension up to that of its last
pub record AreOverBox (ds : List Dimension) (b : Box) (firsts counts : List ℕ) : Type 0 where
  pub last_chunk : List ℕ
  pub first : InBox ds firsts b.start
  pub last : InBox ds last_chunk (lasts b.start b.shape)
  pub counted : AllByRecursion (λ n. n < greatest) last_chunk → counts ≡ counts_between firsts last_chunk

-- the two lists; none where the first or the last element lies in no chunk
abbrev pub AnswersOverBox : List Dimension → Box → Result (Option (Vec ℕ Global × Vec ℕ Global)) (Refusal IncompatibleDimensionalityError) → Type 0
AnswersOverBox ds b =
    Answers (length b.start) (length ds) (λ found. AreOverBox ds b found.0.items found.1.items)
    (((chunk : List ℕ) → ¬ InBox ds chunk b.start) ⊎ ((chunk : List ℕ) → ¬ InBox ds chunk (lasts b.start b.shape)))

-- The chunk whose box holds the index and the index's place in it, as two lists hold them after the call; `false` where no box does.
abbrev pub AnswersHome : List Dimension → List ℕ → Result Bool (Refusal IncompatibleDimensionalityError) → (chunk place : List ℕ) → Type 0
AnswersHome ds index (Ok true) chunk place = (length index ≡ length ds) × InBox ds chunk index × IsPlace ds chunk index place
AnswersHome ds index (Ok false) chunk place = (length index ≡ length ds) × ((chunk : List ℕ) → ¬ InBox ds chunk index)
AnswersHome ds index (Err (Refused e)) chunk place = (length index ≢ length ds) × TellsLengths (length index) (length ds) e
AnswersHome ds index (Err (Memory _)) chunk place = (length index ≡ length ds) × (length ds ≢ 0)
