-- What is known of the chunks that a store has.
use Rattle.std.specs.Prelude.{◌≡◌, ◌≢◌, ◌==◌, ◌↔◌, ◌&&◌, ℕ, ◌+◌, ◌-◌, ◌*◌, ◌/◌, ◌%◌, Bool, true, false, IsTrue, List, [], ◌∷◌, length, Some}
use Rattle.std.specs.Prelude.{nat_le, nat_lt}
use Rattle.std.specs.Int.{bit_at}
use Rattle.std.specs.List.{slice_get, slice_index_or}
use Rattle.zarrs_chunk_base.specs.ArraySubset.{IsBox, IsInside}
use Rattle.zarrs_chunk_base.specs.Dimension.{Dimension}
use Rattle.zarrs_chunk_axes.specs.RowMajor.{row_major}
use Rattle.zarrs_chunks.specs.Walks.{chunks_in}
use Rattle.zarrs_chunk_parts.specs.Plan.{Meets}
use Rattle.zarrs_chunk_plan.specs.ArrayBoxes.{array_box}
use Rattle.zarrs_chunk_plan.specs.StoredChunks.{IsListed}
use Rattle.zarrs_chunk_plan.specs.declared.copy.stored_chunks.StoredChunks.{StoredChunks}

-- whether the chunk with this number, of those that the plan writes, is marked as stored
unfoldable pub is_stored : StoredChunks → ℕ → Bool
is_stored stored number = bit_at (slice_index_or stored.bits.items (number / 64) 0) (number % 64) == 1

-- whether a chunk lies in a box of chunk numbers, and how many chunks of the box come before it
abbrev pub lies_inside : (start shape chunk : List ℕ) → Bool
lies_inside [] [] [] = true
lies_inside (s ∷ start) (n ∷ shape) (c ∷ chunk) = nat_le s c && (nat_lt c (s + n) && lies_inside start shape chunk)
lies_inside _ _ _ = false

abbrev pub place_of : (start shape chunk : List ℕ) → ℕ
place_of (s ∷ start) (n ∷ shape) (c ∷ chunk) = (c - s) * length (row_major shape) + place_of start shape chunk
place_of _ _ _ = 0

-- whether the plan writes the chunk, and it is marked as stored
unfoldable pub has_mark : StoredChunks → (chunk : List ℕ) → Bool
has_mark stored chunk =
    lies_inside stored.targets.start stored.targets.shape chunk && is_stored stored (place_of stored.targets.start stored.targets.shape chunk)

-- What is known where a store listed these keys, and a plan writes these chunks: which chunks hold elements of the target's array, which of them the
-- plan writes, and of each of these whether one of the keys is its own.
pub record Knows (target : List Dimension) (IsKeyOf : List ℕ → List ℕ → Type 0) (targets keys : List (List ℕ)) (stored : StoredChunks) : Type 0 where
  pub held : (chunk : List ℕ) → IsInside stored.held chunk ↔ Meets target (array_box target) chunk
  pub is_box : IsBox stored.targets
  pub same_targets : chunks_in stored.targets ≡ targets
  pub each : (number : ℕ) (chunk : List ℕ) → slice_get targets number ≡ Some chunk
      → IsTrue (is_stored stored number) ↔ IsListed IsKeyOf keys chunk

-- The chunk is marked under the one number that it has, and nothing else changes.
pub record IsMarked (chunk : List ℕ) (before after : StoredChunks) : Type 0 where
  pub number : ℕ
  pub is : slice_get (chunks_in before.targets) number ≡ Some chunk
  pub alone : (other : ℕ) → slice_get (chunks_in before.targets) other ≡ Some chunk → other ≡ number
  pub marked : IsTrue (is_stored after number)
  pub others : (other : ℕ) → other ≢ number → is_stored after other ≡ is_stored before other
  pub held : after.held ≡ before.held
  pub targets : after.targets ≡ before.targets
