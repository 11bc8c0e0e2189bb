-- Keys behind a document, a line each, and what they leave of a plan.
-- Source: the form of the input and of the lines is this program's own.
use Rattle.std.specs.Prelude.{◌≡◌, ◌≢◌, ◌↔◌, ◌⊎◌, ◌≤◌, ◌<◌, ◌^◌, ◌==◌, ◌&&◌, ◌+◌, if◌then◌else◌, ◌∷◌, ◌++◌}
use Rattle.programs.specs.chunkplan.Common.{ℕ, suc, pred, take, Bool, true, IsTrue, List, [], Contains, length, codes, Ok, AllByRecursion, IsUtf8}
use Rattle.programs.specs.chunkplan.Common.{Json, string, object, no_members, member, Box, Data, Dimension, IsJsonOf, EndsInSlash, IsKey, counted}
use Rattle.programs.specs.chunkplan.Common.{before_share, share_of, moved, Part, Share, TaskPlan, RunFault, KeyNotText, TooManyForKeys}
use Rattle.std.specs.Io.BufRead.{drop_through, take_through}
use Rattle.zarrs_chunks.specs.Walks.{chunks_in}
use Rattle.zarrs_chunk_parts.specs.Plan.{Covers}
use Rattle.zarrs_chunk_plan.specs.StoredChunks.{IsListed, IsOfArray}
use Rattle.programs.specs.chunkplan.Document.{flag_in}
use Rattle.programs.specs.chunkplan.Line.{line_of, lines_from, task_line}
use Rattle.programs.specs.chunkplan.Stages.{Stage, target_dimensions}

-- ---- the input

-- the first line, with its line feed, if it has one; and what is behind it
abbrev pub first_line : List ℕ → List ℕ
first_line = take_through 10

abbrev pub behind_first : List ℕ → List ℕ
behind_first = drop_through 10

-- the first line is a text of JSON in which `keys` is true
abbrev pub HasKeysBehind : List ℕ → Type 0
HasKeysBehind line = (tree : Data) × IsJsonOf line tree × flag_in (codes "keys") tree (Ok true)

-- the bytes before the first line feed
abbrev pub unended : List ℕ → List ℕ
unended [] = []
unended (byte ∷ bytes) = if byte == 10 then [] else byte ∷ unended bytes

-- how many braces are open after a byte
abbrev pub braces_after : (braces byte : ℕ) → ℕ
braces_after braces byte = if byte == 123 then suc braces else (if byte == 125 then pred braces else braces)

-- how many bytes the lines have up to the first one at whose end no brace is open
abbrev pub closed_length : (braces : ℕ) → List ℕ → ℕ
closed_length braces [] = 0
closed_length braces (byte ∷ bytes) = suc (if byte == 10 && braces == 0 then 0 else closed_length (braces_after braces byte) bytes)

-- These lines: a document that is written over several lines ends with the last of them.
abbrev pub closed_lines : List ℕ → List ℕ
closed_lines input = take (closed_length 0 input) input

-- The keys in some lines, in order: each line that isn't empty is one.
pub data AreKeys : (bytes : List ℕ) (keys : List (List ℕ)) → Type 0 where
  no_line : AreKeys [] []
  empty_line : (bytes : List ℕ) (keys : List (List ℕ)) → bytes ≢ [] → unended bytes ≡ [] → AreKeys (behind_first bytes) keys → AreKeys bytes keys
  key_line : (bytes : List ℕ) (keys : List (List ℕ)) → unended bytes ≢ [] → AreKeys (behind_first bytes) keys → AreKeys bytes (unended bytes ∷ keys)

-- ---- what is left of a plan

-- a key, as a store may have it: a text that ends in a slash is none
abbrev pub AsStoreKey : (List ℕ → List ℕ → Type 0) → (chunk key : List ℕ) → Type 0
AsStoreKey IsKeyOf chunk key = (¬ EndsInSlash key) × IsKeyOf chunk key

module _ (IsKeyOf : List ℕ → List ℕ → Type 0) (keys : List (List ℕ)) where
  -- a chunk needn't be written: it would be written whole, and a key of it is listed
  abbrev pub IsThere : Part → Type 0
  IsThere part = IsTrue part.whole × IsListed (AsStoreKey IsKeyOf) keys part.chunk.items

  -- a task is done if it needn't write any of its chunks
  abbrev pub TellsDone : List TaskPlan → (TaskPlan → Bool) → Type 0
  TellsDone plans is_done = AllByRecursion (λ (plan : TaskPlan). IsTrue (is_done plan) ↔ AllByRecursion IsThere plan.1.1) plans

-- the lines of a share of the tasks, without those of the tasks that are done
abbrev pub missing_lines : (TaskPlan → Bool) → Share → List TaskPlan → List ℕ
missing_lines is_done share plans =
    lines_from (λ n plan. if is_done plan then [] else task_line (counted n) (counted (length plans)) plan)
    (before_share share.number share.of (length plans)) (share_of share plans)

-- ---- keys of others

-- the key of a chunk that holds elements of the target's array
abbrev pub IsKeyOfTarget : (target : List Dimension) → (List ℕ → List ℕ → Type 0) → List ℕ → Type 0
IsKeyOfTarget target IsKeyOf = IsOfArray target (AsStoreKey IsKeyOf)

-- of the keys those that are none of the target's, in order
abbrev pub AreUnexpected : (target : List Dimension) → (List ℕ → List ℕ → Type 0) → (keys unexpected : List (List ℕ)) → Type 0
AreUnexpected target IsKeyOf [] unexpected = unexpected ≡ []
AreUnexpected target IsKeyOf (key ∷ keys) unexpected =
    (IsKeyOfTarget target IsKeyOf key × AreUnexpected target IsKeyOf keys unexpected)
    ⊎ ((¬ IsKeyOfTarget target IsKeyOf key)
    × (others : List (List ℕ)) × (unexpected ≡ key ∷ others) × AreUnexpected target IsKeyOf keys others)

abbrev pub unexpected_json : List ℕ → Json
unexpected_json key = object (member (codes "unexpected") (string key) no_members)

abbrev pub unexpected_lines : List (List ℕ) → List ℕ
unexpected_lines [] = []
unexpected_lines (key ∷ keys) = line_of (unexpected_json key) ++ unexpected_lines keys

-- ---- both

-- how many chunks of the target take elements of the stage's region
abbrev pub WritesChunks : Stage → (count : ℕ) → Type 0
WritesChunks stage count = (cover : Box) × Covers (target_dimensions stage) (moved stage.at stage.region) cover × (count ≡ length (chunks_in cover))

-- The store of a stage's target has these keys. What is written of a share of the stage are the lines of the tasks that aren't done, and after them the
-- unexpected keys. The stage writes fewer than 2 ^ 29 chunks, and each key is a text.
pub record IsMissingText (stage : Stage) (keys : List (List ℕ)) (share : Share) (plans : List TaskPlan) (text : List ℕ) : Type 0 where
  pub count : ℕ
  pub writes : WritesChunks stage count
  pub few : count < 2 ^ 29
  pub are_texts : (key : List ℕ) → Contains keys key → IsUtf8 key
  pub is_done : TaskPlan → Bool
  pub tells : TellsDone (IsKey stage.target.1) keys plans is_done
  pub unexpected : List (List ℕ)
  pub are_unexpected : AreUnexpected (target_dimensions stage) (IsKey stage.target.1) keys unexpected
  pub text_is : text ≡ missing_lines is_done share plans ++ unexpected_lines unexpected

-- The first line that is no text has this number, if the lines are counted from a first number on.
pub data IsFirstNoText : (first : ℕ) (bytes : List ℕ) (number : ℕ) → Type 0 where
  here : (first : ℕ) (bytes : List ℕ) → (¬ IsUtf8 (unended bytes)) → IsFirstNoText first bytes first
  behind : (first : ℕ) (bytes : List ℕ) (number : ℕ) → IsUtf8 (unended bytes) → IsFirstNoText (first + 1) (behind_first bytes) number
      → IsFirstNoText first bytes number

-- the fault says that the stage writes too many chunks; or else which line is the first that is no text, where the document is line 1
abbrev pub IsKeysFault : Stage → (bytes : List ℕ) → RunFault → Type 0
IsKeysFault stage bytes TooManyForKeys = (count : ℕ) × WritesChunks stage count × (2 ^ 29 ≤ count)
IsKeysFault stage bytes (KeyNotText line) = ((count : ℕ) × WritesChunks stage count × (count < 2 ^ 29)) × IsFirstNoText 2 bytes line
IsKeysFault stage bytes _ = ⊥
