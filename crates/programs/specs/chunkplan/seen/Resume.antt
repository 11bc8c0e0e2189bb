-- What is known after some keys were read.
use Rattle.std.specs.Prelude.{◌≡◌, ◌↔◌, ◌++◌, ◌&&◌, if◌then◌else◌, ◌∷◌}
use Rattle.programs.specs.chunkplan.Common.{ℕ, Bool, true, false, Contains, IfSome, length, List, [], Option, None, Some, IsUtf8, Dimension, EndsInSlash}
use Rattle.programs.specs.chunkplan.Common.{counted, before_share, share_of, Part, Share, TaskPlan, RunFault, KeyNotText, Memory, Read}
use Rattle.zarrs_chunk_plan.specs.declared.copy.stored_chunks.StoredChunks.{StoredChunks}
use Rattle.zarrs_chunk_plan.specs.seen.StoredChunks.{Knows, has_mark}
use Rattle.programs.specs.chunkplan.Keys.{AreUnexpected, IsFirstNoText, unexpected_lines}
use Rattle.programs.specs.chunkplan.Line.{lines_from, task_line}

-- whether a chunk is stored, and would be written whole; and whether all chunks of some parts are such
abbrev pub is_stored_whole : StoredChunks → Part → Bool
is_stored_whole stored part = part.whole && has_mark stored part.chunk.items

abbrev pub are_stored : StoredChunks → List Part → Bool
are_stored stored [] = true
are_stored stored (part ∷ parts) = is_stored_whole stored part && are_stored stored parts

-- whether a task is left out
abbrev pub is_left_out : Option StoredChunks → TaskPlan → Bool
is_left_out (Some stored) plan = are_stored stored plan.1.1
is_left_out None plan = false

-- the line of a task, or nothing
abbrev pub line_unless_stored : Option StoredChunks → (at of : Option ℕ) → TaskPlan → List ℕ
line_unless_stored stored at of plan = if is_left_out stored plan then [] else task_line at of plan

-- the lines of a share of the tasks, without those
abbrev pub share_unless_stored : Option StoredChunks → Share → List TaskPlan → List ℕ
share_unless_stored stored share plans =
    lines_from (λ n. line_unless_stored stored (counted n) (counted (length plans))) (before_share share.number share.of (length plans))
    (share_of share plans)

-- of the chunks `targets` those are marked of which a key is among these
pub record HaveMarked (target : List Dimension) (IsKeyOf : List ℕ → List ℕ → Type 0) (targets keys : List (List ℕ)) (stored : StoredChunks) : Type 0 where
  pub store_keys : List (List ℕ)
  pub are_store_keys : (key : List ℕ) → Contains store_keys key ↔ (Contains keys key × (¬ EndsInSlash key))
  pub knows : Knows target IsKeyOf targets store_keys stored

-- and each key is a text, and the text has the lines of those that are none of the target's
pub record HaveNoted (target : List Dimension) (IsKeyOf : List ℕ → List ℕ → Type 0) (targets keys : List (List ℕ)) (stored : StoredChunks)
    (text : List ℕ) : Type 0 where
  pub marked : HaveMarked target IsKeyOf targets keys stored
  pub are_texts : (key : List ℕ) → Contains keys key → IsUtf8 key
  pub unexpected : List (List ℕ)
  pub are_unexpected : AreUnexpected target IsKeyOf keys unexpected
  pub text_is : text ≡ unexpected_lines unexpected

-- these keys, and behind them the one in a line, if that isn't empty
abbrev pub with_line : List (List ℕ) → (line : List ℕ) → List (List ℕ)
with_line keys [] = keys
with_line keys (byte ∷ line) = keys ++ (byte ∷ line) ∷ []

-- why noting the keys in some lines stops, by whether a read had failed before, and after it: a read failed; memory ran out; a line is no text
abbrev pub IsKeysStop : RunFault → (bytes : Option (List ℕ)) → (read_before read_after : Bool) → Type 0
IsKeysStop Read bytes read_before read_after = read_after ≡ true
IsKeysStop Memory bytes read_before read_after = read_after ≡ read_before
IsKeysStop (KeyNotText line) bytes read_before read_after = (read_after ≡ read_before) × IfSome bytes (λ bs. IsFirstNoText 2 bs line)
IsKeysStop _ bytes read_before read_after = ⊥
