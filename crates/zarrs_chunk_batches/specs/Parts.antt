-- Parts of a plan, written one after another.
-- Sources: Zarr V3 core, chunk grids and chunk key encodings; the plan is this library's own.
use Rattle.std.specs.Prelude.{◌≡◌, ℕ, ◌+◌, ◌-◌, ◌*◌, ◌<◌, List, [], ◌∷◌, drop, length, min, slice_index_or}
use Rattle.std.specs.Borrow.{MutBor}
use Rattle.zarrs_chunk_base.specs.ArraySubset.{Box}
use Rattle.zarrs_chunk_base.specs.Dimension.{Dimension}
use Rattle.zarrs_chunk_base.specs.Greatest.{greatest}
use Rattle.zarrs_chunks.specs.Walks.{chunks_in}
use Rattle.zarrs_chunk_parts.specs.Plan.{AreShared, Covers}
use Rattle.zarrs_chunk_prepared.specs.LookedUp.{HasNoCover}
use Rattle.zarrs_chunk_batches.specs.Batch.{AreKeys, IsMarked, IsTooLong, IsWhole, list_at}
use Rattle.zarrs_chunk_batches.specs.KeyCalls.{AreTextLengths}
use Rattle.zarrs_chunk_batches.specs.declared.structs.PartBuffers.{PartBuffers}

-- What is written with this number is the part of the chunk: its numbers, and the elements that it shares with the box, counted from either.
pub record IsPartAt (ds : List Dimension) (subset : Box) (chunk : List ℕ) (buffers : PartBuffers) (number : ℕ) : Type 0 where
  pub numbers : list_at (length ds) buffers.chunks.now number ≡ chunk
  pub boxes : AreShared ds subset chunk
      (record { start = list_at (length ds) buffers.in_chunk.now number; shape = list_at (length ds) buffers.shapes.now number })
      (record { start = list_at (length ds) buffers.in_selection.now number; shape = list_at (length ds) buffers.shapes.now number })

-- The plan of the box has so many parts in all, as far as a number of 64 bits counts them. The part with the number `first` and those after it are
-- written, at most one fewer than there are offsets: one for each chunk of the cover in row-major order, each with a key of its chunk, these keys.
pub record IsPlanWith (ds : List Dimension) (IsKey : List ℕ → List ℕ → Type 0) (subset : Box) (first : ℕ) (buffers : PartBuffers)
    (keys : List ℕ) : Type 0 where
  pub cover : Box
  pub is_cover : Covers ds subset cover
  pub has_in_all : buffers.in_all ≡ min (length (chunks_in cover)) greatest
  pub has_written : buffers.count ≡ min (buffers.in_all - first) (length buffers.offsets.now - 1)
  pub parts : (number : ℕ) → number < buffers.count → IsPartAt ds subset (slice_index_or (chunks_in cover) (first + number) []) buffers number
  pub are_keys : AreKeys IsKey (length ds) buffers.count buffers.chunks.now keys buffers.offsets.now

-- the plan is written, or there is none; and all of it but its keys, which are longer than their buffer
abbrev pub IsPlanOf : List Dimension → (List ℕ → List ℕ → Type 0) → Box → (first : ℕ) → PartBuffers → Type 0
IsPlanOf ds IsKey subset first buffers =
    IsMarked buffers.found (IsWhole (IsPlanWith ds IsKey subset first buffers) buffers.text.now buffers.needed) (HasNoCover ds subset)

abbrev pub IsPlanTooLong : List Dimension → (List ℕ → List ℕ → Type 0) → Box → (first : ℕ) → PartBuffers → Type 0
IsPlanTooLong ds IsKey subset first buffers =
    (buffers.found ≡ 1) × IsTooLong (IsPlanWith ds IsKey subset first buffers) buffers.text.now buffers.needed

-- there is room for so many parts in each of the four arrays of lists, and an offset more
abbrev pub IsRoomFor : (width : ℕ) → PartBuffers → (room : ℕ) → Type 0
IsRoomFor width buffers room =
    AreTextLengths width (length buffers.offsets.now)
    (length buffers.chunks.now ∷ length buffers.in_chunk.now ∷ length buffers.in_selection.now ∷ length buffers.shapes.now ∷ []) room

-- the buffers lie where they did, and are as long
abbrev pub IsSameBuffer : (before after : MutBor (List ℕ)) → Type 0
IsSameBuffer before after = (after.ref_ptr ≡ before.ref_ptr) × (length after.now ≡ length before.now)

pub record AreSameBuffers (before after : PartBuffers) : Type 0 where
  pub chunks : IsSameBuffer before.chunks after.chunks
  pub in_chunk : IsSameBuffer before.in_chunk after.in_chunk
  pub in_selection : IsSameBuffer before.in_selection after.in_selection
  pub shapes : IsSameBuffer before.shapes after.shapes
  pub text : IsSameBuffer before.text after.text
  pub offsets : IsSameBuffer before.offsets after.offsets

-- behind so many lists the four buffers of lists are as they were
pub record AreListsKept (width count : ℕ) (before after : PartBuffers) : Type 0 where
  pub chunks : drop (count * width) after.chunks.now ≡ drop (count * width) before.chunks.now
  pub in_chunk : drop (count * width) after.in_chunk.now ≡ drop (count * width) before.in_chunk.now
  pub in_selection : drop (count * width) after.in_selection.now ≡ drop (count * width) before.in_selection.now
  pub shapes : drop (count * width) after.shapes.now ≡ drop (count * width) before.shapes.now

-- Behind the parts that are written the four buffers of lists are as they were, and so is that of offsets: behind one offset more where there is a
-- plan, and as a whole where there is none, since `found` is 0 then.
pub record AreKeptBehind (width : ℕ) (before after : PartBuffers) : Type 0 where
  pub lists : AreListsKept width after.count before after
  pub offsets : drop (after.count + after.found) after.offsets.now ≡ drop (after.count + after.found) before.offsets.now
