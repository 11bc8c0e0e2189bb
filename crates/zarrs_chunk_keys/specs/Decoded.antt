-- What a key is read back as.
-- Source: Zarr V3 core, chunk key encodings.
use Rattle.std.specs.Prelude.{◌≡◌, ℕ, List, length, Option, Some, None, Vec}
use Rattle.std.specs.declared.alloc.Global.{Global}
use Rattle.zarrs_chunk_base.specs.Greatest.{AllFit}

-- a list with this many numbers, each at most the greatest, whose key it is; or that there is no such list
abbrev pub IsDecoded : (List ℕ → Type 0) → ℕ → Option (Vec ℕ Global) → Type 0
IsDecoded HasKey dimensionality (Some chunk) = (length chunk.items ≡ dimensionality) × AllFit chunk.items × HasKey chunk.items
IsDecoded HasKey dimensionality None = (chunk : List ℕ) → AllFit chunk → length chunk ≡ dimensionality → ¬ HasKey chunk
