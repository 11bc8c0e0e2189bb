-- What is asked of an encoding in batches.
-- Source: Zarr V3 core, chunk key encodings.
use Rattle.std.specs.Prelude.{◌≡◌, ℕ, List, length, IsUtf8}
use Rattle.zarrs_chunk_base.specs.Greatest.{AllFit}
use Rattle.zarrs_chunk_base.specs.StoreKey.{EndsInSlash}

-- The bytes are a store key, and the key of a chunk with this many numbers, each at most the greatest.
pub record IsChunkOf (IsKey : List ℕ → List ℕ → Type 0) (dimensionality : ℕ) (key chunk : List ℕ) : Type 0 where
  pub long : length chunk ≡ dimensionality
  pub fit : AllFit chunk
  pub utf8 : IsUtf8 key
  pub no_slash : ¬ EndsInSlash key
  pub is_key : IsKey chunk key
