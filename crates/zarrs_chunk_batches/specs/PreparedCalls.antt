-- The calls that prepare a grid and an encoding, and those of prepared ones.
-- Sources: Zarr V3 core, chunk grids, chunk key encodings; the numbers are this library's own.
use Rattle.std.specs.Prelude.{◌≡◌, ◌⊎◌, ℕ, List, MatchResult, length}
use Rattle.zarrs_chunk_base.specs.Grid.{Grid}
use Rattle.zarrs_chunk_keys.specs.ChunkKey.{Encoding}
use Rattle.zarrs_chunk_prepared.specs.Prepared.{AreTables, IsPreparedGrid, IsWrittenGrid, Table}
use Rattle.zarrs_chunk_prepared.specs.PreparedEncoding.{IsPreparedEncoding}
use Rattle.zarrs_chunk_batches.specs.Batch.{AreKept, IsTooLong, IsWhole}
use Rattle.zarrs_chunk_batches.specs.Calls.{Call, EndsForEach, Request}
use Rattle.zarrs_chunk_batches.specs.Codes.{End}
use Rattle.zarrs_chunk_batches.specs.GridCalls.{grid_call}
use Rattle.zarrs_chunk_batches.specs.KeyCalls.{encoding_call, encoding_request}
use Rattle.zarrs_chunk_batches.specs.declared.codes.Fault.TheVariants.{Memory, NotPrepared, Short}

-- The numbers of a grid. They are refused where they are more than their buffer holds.
abbrev pub prepare_grid_call : (shape metadata numbers : List ℕ) (needed : ℕ) → Call Grid
prepare_grid_call shape metadata numbers needed =
    grid_call shape metadata (record {
      Fits = λ _. Unit {0};
      Refuses = λ grid fault. (fault ≡ Short) × IsTooLong (λ written. IsWrittenGrid written grid) numbers needed;
      Answers = λ grid. IsWhole (λ written. IsWrittenGrid written grid) numbers needed;
    })

-- the numbers are refused, or memory ran out
abbrev pub IsUnread : End → Type 0
IsUnread end = MatchResult end (λ _. ⊥) (λ fault. (fault ≡ Memory) ⊎ (fault ≡ NotPrepared))

-- A request of prepared numbers ends as it does of the grid whose they are. Numbers that are no mark and tables after it are refused, or memory runs
-- out. Nothing is said of tables that are no grid's.
pub record EndsForPrepared (numbers : List ℕ) (request : Request Grid) (end : End) : Type 0 where
  pub of_grid : EndsForEach (IsPreparedGrid numbers) request end
  pub of_none : ((tables : List Table) → ¬ AreTables numbers tables) → IsUnread end

-- of the grid whose they are, the lists without an answer are as they were
abbrev pub AreKeptForPrepared : (numbers before after marks : List ℕ) → Type 0
AreKeptForPrepared numbers before after marks =
    (grid : Grid) → IsPreparedGrid numbers grid → AreKept (length grid.dimensions) before after marks

-- The numbers of an encoding. They are refused where they are more than their buffer holds.
abbrev pub prepare_encoding_call : (metadata numbers : List ℕ) (needed : ℕ) → Call Encoding
prepare_encoding_call metadata numbers needed =
    encoding_call metadata (encoding_request (Unit {0})
    (λ encoding fault. (fault ≡ Short) × IsTooLong (λ prepared. IsPreparedEncoding prepared encoding) numbers needed)
    (λ encoding. IsWhole (λ prepared. IsPreparedEncoding prepared encoding) numbers needed))

-- A request of prepared numbers ends as it does of the encoding whose they are. Numbers of no encoding are refused, or memory runs out.
pub record EndsForPreparedKeys (numbers : List ℕ) (request : Request Encoding) (end : End) : Type 0 where
  pub of_encoding : EndsForEach (IsPreparedEncoding numbers) request end
  pub of_none : ((encoding : Encoding) → ¬ IsPreparedEncoding numbers encoding) → IsUnread end
