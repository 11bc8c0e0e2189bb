-- What stands between the parts of a chunk key.
-- Source: Zarr V3 core, chunk key encodings.
use Rattle.std.specs.Prelude.{ℕ}
use Rattle.zarrs_chunk_base.specs.declared.chunk_key_separator.ChunkKeySeparator.{ChunkKeySeparator}
use Rattle.zarrs_chunk_base.specs.declared.chunk_key_separator.ChunkKeySeparator.TheVariants.{Slash, Dot}

-- the ASCII byte of a separator
abbrev pub separator_byte : ChunkKeySeparator → ℕ
separator_byte Slash = 47
separator_byte Dot = 46
