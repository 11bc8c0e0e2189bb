-- An array that gets another shape: which of its chunks stay as they are stored, and which don't. What each chunk holds is said of two grids, that of
-- the array as it was and that of the array as it is to be.
-- Sources: Zarr V3 core, chunk grids and chunk key encodings; the plan of a resize is this library's own.
use Rattle.std.specs.Prelude.{◌≡◌, ◌≢◌, ◌↔◌, ◌⊎◌, ◌<◌, ℕ, Bool, IsTrue, List, Option, MatchOption, length, replicate}
use Rattle.std.specs.List.{AllPairs, AllZip, Contains}
use Rattle.zarrs_chunk_base.specs.ArraySubset.{IsBox, IsInside}
use Rattle.zarrs_chunk_base.specs.Dimension.{Dimension, Holds, InBox, IsShape, array_sizes}
use Rattle.zarrs_chunk_axes.specs.InBounds.{AreBelow}
use Rattle.zarrs_chunk_parts.specs.Plan.{Meets}
use Rattle.zarrs_chunk_plan.specs.ArrayBoxes.{array_box}
use Rattle.zarrs_chunk_plan.specs.declared.resize.changed.ChangedChunks.{ChangedChunks}
use Rattle.zarrs_chunk_plan.specs.declared.resize.plan.Change.{Change}
use Rattle.zarrs_chunk_plan.specs.declared.resize.plan.Change.TheVariants.{Create, Delete, Keep, Rewrite}
use Rattle.zarrs_chunk_plan.specs.declared.resize.plan.ChunkChange.{ChunkChange}
use Rattle.zarrs_chunk_plan.specs.declared.resize.plan.ChunkContents.{ChunkContents}

-- An index below both array sizes lies in the same chunk of either. So it is of grids that one configuration makes.
pub record IsResized (before after : Dimension) : Type 0 where
  pub same_chunk : (c i : ℕ) → i < before.array_size → i < after.array_size → Holds before c i ↔ Holds after c i

-- and so along each dimension
abbrev pub AreResized : (before after : List Dimension) → Type 0
AreResized = AllZip IsResized

-- the chunk holds the element, and the array has it
abbrev pub HasElementOf : List Dimension → List ℕ → List ℕ → Type 0
HasElementOf ds chunk index = InBox ds chunk index × AreBelow (array_sizes ds) index

-- the chunk holds some element of the array
abbrev pub IsUsed : List Dimension → List ℕ → Type 0
IsUsed ds chunk = Meets ds (array_box ds) chunk

-- the chunk stays as it is stored: it holds elements of the array, the same as before, and has the shape that it had
pub record IsKept (before after : List Dimension) (chunk : List ℕ) : Type 0 where
  pub used : IsUsed before chunk
  pub elements : (index : List ℕ) → HasElementOf before chunk index ↔ HasElementOf after chunk index
  pub shape : (edges : List ℕ) → IsShape before chunk edges ↔ IsShape after chunk edges

-- What becomes of a chunk: it is kept; both arrays use it, but it isn't kept; only the array as it was uses it; only the array as it is to be does.
abbrev pub IsChanged : (before after : List Dimension) → List ℕ → Change → Type 0
IsChanged before after chunk Keep = IsKept before after chunk
IsChanged before after chunk Rewrite = IsUsed before chunk × IsUsed after chunk × (¬ IsKept before after chunk)
IsChanged before after chunk Delete = IsUsed before chunk × (¬ IsUsed after chunk)
IsChanged before after chunk Create = IsUsed after chunk × (¬ IsUsed before chunk)

-- what the chunk holds of the array, as a box of the array, and the chunk's shape
pub record IsHeld (ds : List Dimension) (chunk : List ℕ) (held : ChunkContents) : Type 0 where
  pub is_box : IsBox held.elements
  pub elements : (index : List ℕ) → IsInside held.elements index ↔ HasElementOf ds chunk index
  pub shape : IsShape ds chunk held.shape.items

-- and nothing, where it holds no element of the array
abbrev pub MayHold : List Dimension → List ℕ → Option ChunkContents → Type 0
MayHold ds chunk held = MatchOption held (¬ IsUsed ds chunk) (λ held. IsUsed ds chunk × IsHeld ds chunk held)

-- the change of a chunk: its numbers, a key of it, what it held and what it is to hold, and what becomes of it
pub record IsChange (before after : List Dimension) (IsKey : List ℕ → List ℕ → Type 0) (chunk : List ℕ) (change : ChunkChange) : Type 0 where
  pub numbers : change.chunk.items ≡ chunk
  pub key : IsKey chunk change.key
  pub held : MayHold before chunk change.before
  pub holds : MayHold after chunk change.after
  pub what : IsChanged before after chunk change.what

-- the chunk is one that either array uses; one that is kept, only where these are wanted
pub record IsAsked (before after : List Dimension) (include_unchanged : Bool) (chunk : List ℕ) : Type 0 where
  pub used : IsUsed before chunk ⊎ IsUsed after chunk
  pub wanted : IsTrue include_unchanged ⊎ (¬ IsKept before after chunk)

-- these are the chunks of which a change is asked for, each once
pub record AreChanged (before after : List Dimension) (include_unchanged : Bool) (chunks : List (List ℕ)) : Type 0 where
  pub once : AllPairs (λ one other. one ≢ other) chunks
  pub are_those : (chunk : List ℕ) → Contains chunks chunk ↔ IsAsked before after include_unchanged chunk

-- the plan of a resize: a change for each of them, in any order
pub record IsResizePlan (before after : List Dimension) (IsKey : List ℕ → List ℕ → Type 0) (include_unchanged : Bool) (changes : List ChunkChange) : Type 0 where
  pub chunks : List (List ℕ)
  pub are_chunks : AreChanged before after include_unchanged chunks
  pub are_changes : AllZip (IsChange before after IsKey) chunks changes

-- The chunks of this property are those whose numbers are below a list, which has a number for each dimension. Without such a chunk each number is 0.
pub record AreBelowCounts (dimensionality : ℕ) (P : List ℕ → Type 0) (counts : List ℕ) : Type 0 where
  pub long : length counts ≡ dimensionality
  pub those : (chunk : List ℕ) → AreBelow counts chunk ↔ P chunk
  pub none : Contains counts 0 → counts ≡ replicate dimensionality 0

-- along each dimension, how many chunks hold elements of the array before the resize, and after it, and how many are kept
pub record AreChangedChunks (before after : List Dimension) (changed : ChangedChunks) : Type 0 where
  pub before_it : AreBelowCounts (length before) (IsUsed before) changed.before.items
  pub after_it : AreBelowCounts (length after) (IsUsed after) changed.after.items
  pub kept : AreBelowCounts (length before) (IsKept before after) changed.kept.items
