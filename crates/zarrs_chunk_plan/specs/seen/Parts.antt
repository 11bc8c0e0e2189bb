-- What is left of a walk over the parts of a box of elements.
use Rattle.std.specs.Prelude.{◌≡◌, ◌≢◌, ◌⊎◌, ℕ, List, [], length, Option, Some, None, Result, Ok, Err}
use Rattle.std.specs.List.{AllByRecursion, AllZip}
use Rattle.std.specs.declared.alloc.AllocError.{AllocError}
use Rattle.zarrs_chunk_base.specs.ArraySubset.{Box, lasts}
use Rattle.zarrs_chunk_base.specs.Dimension.{Dimension}
use Rattle.zarrs_chunk_base.specs.Greatest.{AllFit}
use Rattle.zarrs_chunk_base.specs.Refusal.{AnswersOrMemory}
use Rattle.zarrs_chunk_base.specs.declared.incompatible_dimensionality_error.IncompatibleDimensionalityError.{IncompatibleDimensionalityError}
use Rattle.zarrs_chunk_base.specs.declared.refusal.Refusal.{Refusal}
use Rattle.zarrs_chunk_base.specs.declared.refusal.Refusal.TheVariants.{Refused, Memory}
use Rattle.zarrs_chunks.specs.Subsets.{HasNoHome}
use Rattle.zarrs_chunks.specs.Walks.{Gives, chunks_in}
use Rattle.zarrs_chunk_plan.specs.seen.ChunkIter.{all_between, chunks_between, offsets_between}
use Rattle.zarrs_chunk_parts.specs.Plan.{Covers, IsPart, Meets}
use Rattle.zarrs_chunk_parts.specs.declared.part.Part.{Part}
use Rattle.zarrs_chunk_plan.specs.declared.read.walk.Parts.{Parts}

module _ {G E : Type 0} where
  -- the chunks of which the parts are still to come; and they, counted from the first chunk of the cover
  abbrev pub chunks_to_come : Parts G E → List (List ℕ)
  chunks_to_come walk = chunks_between walk.chunks

  abbrev pub offsets_to_come : Parts G E → List (List ℕ)
  offsets_to_come walk = offsets_between walk.chunks

  -- the chunks of all parts: those to come, those that came, and those that a share leaves out
  abbrev pub all_chunks : Parts G E → List (List ℕ)
  all_chunks walk = all_between walk.chunks

  -- the grid and the encoding that the walk is over
  abbrev pub grid_of : Parts G E → G
  grid_of walk = walk.grid.now

  abbrev pub encoding_of : Parts G E → E
  encoding_of walk = walk.encoding.now

  -- the walk is over this grid, this encoding and this box of elements
  pub record IsAbout (grid : G) (encoding : E) (subset : Box) (walk : Parts G E) : Type 0 where
    pub same_grid : walk.grid.now ≡ grid
    pub same_encoding : walk.encoding.now ≡ encoding
    pub same_subset : walk.array_subset ≡ subset

  -- two walks are over the same
  abbrev pub IsSameRead : (before after : Parts G E) → Type 0
  IsSameRead before after = IsAbout before.grid.now before.encoding.now before.array_subset after

  -- the walk has to give the plan of reading a box of elements
  pub record IsPlanned (dimensions : G → List Dimension) (grid : G) (encoding : E) (subset : Box) (walk : Parts G E) : Type 0 where
    pub about : IsAbout grid encoding subset walk
    pub cover : Box
    pub is_cover : Covers (dimensions grid) subset cover
    pub left : chunks_to_come walk ≡ chunks_in cover
    pub all : all_chunks walk ≡ chunks_in cover

  -- each chunk to come holds some element of the box
  abbrev pub MeetSubset : (G → List Dimension) → Parts G E → Type 0
  MeetSubset dimensions walk = AllByRecursion (Meets (dimensions walk.grid.now) walk.array_subset) (chunks_to_come walk)

  -- the parts that the walk has to give: one for each chunk to come
  abbrev pub ArePartsToCome : (G → List Dimension) → (E → List ℕ → List ℕ → Type 0) → Parts G E → List Part → Type 0
  ArePartsToCome dimensions is_key walk =
      AllZip (IsPart (dimensions walk.grid.now) (is_key walk.encoding.now) walk.array_subset) (chunks_to_come walk)

-- something is found for an empty box, unless it is out of memory
abbrev pub FindsSome : {X : Type 0} → Result (Option X) (Refusal IncompatibleDimensionalityError) → Type 0
FindsSome (Ok (Some _)) = Unit {0}
FindsSome (Ok None) = ⊥
FindsSome (Err (Refused _)) = ⊥
FindsSome (Err (Memory _)) = Unit {0}

-- Something is found for a box that isn't empty if its first and its last element lie in chunks. It is refused if it has another number of dimensions.
abbrev pub FindsCovered : {X : Type 0} → List Dimension → Box → Result (Option X) (Refusal IncompatibleDimensionalityError) → Type 0
FindsCovered ds b =
    AnswersOrMemory (length b.start) (length ds) (λ _. Unit {0}) (HasNoHome ds b.start ⊎ HasNoHome ds (lasts b.start b.shape))

-- each chunk has a key
abbrev pub HasKeys : (List ℕ → List ℕ → Type 0) → Type 0
HasKeys IsKey = (chunk : List ℕ) → AllFit chunk → (key : List ℕ) × IsKey chunk key

-- what holds of a part, where `next` gave one
abbrev pub IfPart : (Part → Type 0) → Option (Result Part AllocError) → Type 0
IfPart P (Some (Ok part)) = P part
IfPart P (Some (Err _)) = Unit {0}
IfPart P None = Unit {0}

-- `next` gives the part of the first chunk to come, and the others are to come then; nothing, at the end; or out of memory. The walk is
-- over the same as before. Of a walk whose chunks hold elements of the box, as `parts` makes one, it is the chunk's part.
pub record GivesPart {G E : Type 0} (dimensions : G → List Dimension) (is_key : E → List ℕ → List ℕ → Type 0) (before : Parts G E)
    (given : Option (Result Part AllocError)) (after : Parts G E) : Type 0 where
  pub gives : Gives offsets_to_come chunks_to_come (λ part. part.chunk.items) (λ offsets. offsets ≢ []) before given after
  pub part : MeetSubset dimensions before
      → IfPart (λ part. IsPart (dimensions before.grid.now) (is_key before.encoding.now) before.array_subset part.chunk.items part) given
  pub about : IsSameRead before after
  pub meet : MeetSubset dimensions before → MeetSubset dimensions after
  pub all : all_chunks after ≡ all_chunks before
