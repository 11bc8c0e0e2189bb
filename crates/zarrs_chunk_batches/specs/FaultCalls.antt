-- The calls that say in words why another call is refused: what each is given, in the order of its parameters, and what answers it.
use Rattle.std.specs.Prelude.{◌≡◌, ℕ, ℤ, ◌<◌, ◌≤◌, List, [], length, take}
use Rattle.zarrs_chunk_base.specs.Grid.{Grid}
use Rattle.zarrs_chunk_keys.specs.ChunkKey.{Encoding}
use Rattle.zarrs_chunk_batches.specs.Batch.{IsTooLong, IsWhole}
use Rattle.zarrs_chunk_batches.specs.Calls.{Call}
use Rattle.zarrs_chunk_batches.specs.Codes.{code_words, fault_code}
use Rattle.zarrs_chunk_batches.specs.GridCalls.{RefusesNone, grid_call, grid_request}
use Rattle.zarrs_chunk_batches.specs.KeyCalls.{encoding_call, encoding_request}
use Rattle.zarrs_chunk_batches.specs.declared.codes.Fault.{Fault}
use Rattle.zarrs_chunk_batches.specs.declared.codes.Fault.TheVariants.{Extension, Short}

-- Why metadata says no grid: it ends as the call that prepares the grid does. Of metadata that says one there are no words.
abbrev pub grid_fault_call : (shape metadata : List ℕ) (needed : ℕ) → Call Grid
grid_fault_call shape metadata needed = grid_call shape metadata (grid_request [] 0 RefusesNone (λ _. needed ≡ 0))

-- the same of an encoding
abbrev pub encoding_fault_call : (metadata : List ℕ) (needed : ℕ) → Call Encoding
encoding_fault_call metadata needed = encoding_call metadata (encoding_request (Unit {0}) RefusesNone (λ _. needed ≡ 0))

-- a text, which is refused where it is longer than its buffer
abbrev pub text_call : (told buffer : List ℕ) (needed : ℕ) → Call (Unit {0})
text_call told buffer needed = record {
  Misses = λ _. ⊥;
  Says = λ _. Unit {0};
  Fits = λ _. Unit {0};
  Refuses = λ _ fault. (fault ≡ Short) × IsTooLong (λ text. text ≡ told) buffer needed;
  Answers = λ _. IsWhole (λ text. text ≡ told) buffer needed;
}

-- what a code says
abbrev pub words_call : (code : ℤ) (words : List ℕ) (needed : ℕ) → Call (Unit {0})
words_call code = text_call (code_words code)

-- The words of a fault: those of its code. Nothing is said here of those that tell why an extension isn't made.
abbrev pub AreWordsOf : Fault → List ℕ → Type 0
AreWordsOf (Extension _) text = Unit {0}
AreWordsOf fault text = text ≡ code_words (fault_code fault)

-- How long the words of the fault are is told, and they are written to the buffer's front; where they are longer, the buffer is as it was.
pub record IsTold (fault : Fault) (before after : List ℕ) (needed : ℕ) : Type 0 where
  pub text : List ℕ
  pub words : AreWordsOf fault text
  pub long : needed ≡ length text
  pub written : needed ≤ length after → take needed after ≡ text
  pub kept : length after < needed → after ≡ before
