-- What is left of a walk over the changes of a resize.
use Rattle.std.specs.Prelude.{◌≡◌, ◌≢◌, ℕ, Bool, true, false, List, [], ◌++◌, Option, Some, None, Result, Ok, Err, drop}
use Rattle.std.specs.List.{AllZip}
use Rattle.std.specs.declared.alloc.AllocError.{AllocError}
use Rattle.zarrs_chunk_base.specs.Dimension.{Dimension}
use Rattle.zarrs_chunks.specs.Walks.{Gives}
use Rattle.zarrs_chunk_plan.specs.ArrayBoxes.{array_box}
use Rattle.zarrs_chunk_plan.specs.Resize.{AreChangedChunks, IsChange}
use Rattle.zarrs_chunk_plan.specs.declared.resize.chunk_changes.Changes.{Changes}
use Rattle.zarrs_chunk_plan.specs.declared.resize.plan.Change.{Change}
use Rattle.zarrs_chunk_plan.specs.declared.resize.plan.Change.TheVariants.{Create, Delete, Keep, Rewrite}
use Rattle.zarrs_chunk_plan.specs.declared.resize.plan.ChunkChange.{ChunkChange}
use Rattle.zarrs_chunk_plan.specs.seen.ChunkIter.{chunks_between}
use Rattle.zarrs_chunk_plan.specs.seen.Outside.{chunks_of_boxes}

module _ {G H E : Type 0} where
  -- the chunks of which the changes are still to come: the others of a box, and those of the boxes after it
  abbrev pub changes_to_come : Changes G H E → List (List ℕ)
  changes_to_come walk = chunks_between walk.chunks ++ chunks_of_boxes (drop walk.next_box walk.boxes.items)

  -- the chunks of all changes: those to come, and those that came
  abbrev pub all_changes : Changes G H E → List (List ℕ)
  all_changes walk = chunks_of_boxes walk.boxes.items

  -- the walk is over the chunks of these grids, under keys of this encoding
  pub record IsAboutResize (before : G) (after : H) (encoding : E) (walk : Changes G H E) : Type 0 where
    pub same_before : walk.before.now ≡ before
    pub same_after : walk.after.now ≡ after
    pub same_encoding : walk.encoding.now ≡ encoding

  -- both are over the same chunks, wherever they are
  pub record IsSameWalk (earlier later : Changes G H E) : Type 0 where
    pub same_before : later.before.now ≡ earlier.before.now
    pub same_after : later.after.now ≡ earlier.after.now
    pub same_encoding : later.encoding.now ≡ earlier.encoding.now
    pub same_array_before : later.array_before ≡ earlier.array_before
    pub same_array_after : later.array_after ≡ earlier.array_after
    pub same_uses : later.uses ≡ earlier.uses
    pub same_boxes : later.boxes.items ≡ earlier.boxes.items

  -- it knows which chunks either array uses, and which are kept
  pub record CanChange (dimensions_before : G → List Dimension) (dimensions_after : H → List Dimension) (walk : Changes G H E) : Type 0 where
    pub array_before : walk.array_before ≡ array_box (dimensions_before walk.before.now)
    pub array_after : walk.array_after ≡ array_box (dimensions_after walk.after.now)
    pub changed : AreChangedChunks (dimensions_before walk.before.now) (dimensions_after walk.after.now) walk.uses

-- the changes that the walk has to give: one for each chunk to come
abbrev pub AreChangesToCome : {G H E : Type 0} → (G → List Dimension) → (H → List Dimension) → (E → List ℕ → List ℕ → Type 0) → Changes G H E
    → List ChunkChange → Type 0
AreChangesToCome dimensions_before dimensions_after is_key walk =
    AllZip (IsChange (dimensions_before walk.before.now) (dimensions_after walk.after.now) (is_key walk.encoding.now)) (changes_to_come walk)

-- what becomes of a chunk, by which array uses it, and whether it is one that is kept where both do
abbrev pub what_becomes : (before after kept : Bool) → Option Change
what_becomes true true true = Some Keep
what_becomes true true false = Some Rewrite
what_becomes true false kept = Some Delete
what_becomes false true kept = Some Create
what_becomes false false kept = None

-- what holds of a change, where `next` gave one
abbrev pub IfChange : (ChunkChange → Type 0) → Option (Result ChunkChange AllocError) → Type 0
IfChange P (Some (Ok change)) = P change
IfChange P (Some (Err _)) = Unit {0}
IfChange P None = Unit {0}

-- `next` gives the change of the first chunk to come, and the others are to come then; nothing, at the end; or out of memory. The walk is over the
-- same as before. Of a walk that knows which chunks are used and kept, as `changes` makes one, it is what becomes of the chunk.
pub record GivesChange {G H E : Type 0} (dimensions_before : G → List Dimension) (dimensions_after : H → List Dimension)
    (is_key : E → List ℕ → List ℕ → Type 0)
    (earlier : Changes G H E) (given : Option (Result ChunkChange AllocError)) (later : Changes G H E) : Type 0 where
  pub gives : Gives changes_to_come changes_to_come (λ change. change.chunk.items) (λ chunks. chunks ≢ []) earlier given later
  pub change : CanChange dimensions_before dimensions_after earlier
      → IfChange (λ change. IsChange (dimensions_before earlier.before.now) (dimensions_after earlier.after.now) (is_key earlier.encoding.now)
      change.chunk.items change) given
  pub about : IsAboutResize earlier.before.now earlier.after.now earlier.encoding.now later
  pub can : CanChange dimensions_before dimensions_after earlier → CanChange dimensions_before dimensions_after later
  pub all : all_changes later ≡ all_changes earlier
