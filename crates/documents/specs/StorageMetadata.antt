-- How an array is stored: in which chunks, and under which keys.
-- Source: Zarr V3 core, array metadata.
use Rattle.std.specs.Prelude.{ℕ, List, Result, Ok, Err}
use Rattle.zarrs_chunk_base.specs.Grid.{Grid}
use Rattle.zarrs_chunk_base.specs.Metadata.{Extension, extension_of}
use Rattle.zarrs_chunk_keys.specs.ChunkKey.{Encoding}
use Rattle.zarrs_chunk_keys.specs.KeyKinds.{IsEncoding, IsEncodingFault}
use Rattle.zarrs_chunks.specs.GridKinds.{IsGrid, IsGridFault}
use Rattle.documents.specs.declared.storage_metadata.CreateFault.{CreateFault}
use Rattle.documents.specs.declared.storage_metadata.CreateFault.TheVariants.{Grid as NoGrid, Encoding as NoEncoding}
use Rattle.documents.specs.declared.storage_metadata.StorageMetadata.{StorageMetadata as StoredValue}

-- the metadata of an array's chunk grid and of its chunk key encoding
pub record StorageMetadata : Type 0 where
  pub chunk_grid : Extension
  pub chunk_key_encoding : Extension

-- what a value of the program stands for
abbrev pub stored_of : StoredValue → StorageMetadata
stored_of s = record { chunk_grid = extension_of s.chunk_grid; chunk_key_encoding = extension_of s.chunk_key_encoding }

-- the grid and the encoding by which an array of a shape is stored
pub record IsStored (stored : StorageMetadata) (shape : List ℕ) (grid : Grid) (encoding : Encoding) : Type 0 where
  pub is_grid : IsGrid stored.chunk_grid shape grid
  pub is_encoding : IsEncoding stored.chunk_key_encoding encoding

-- why an array of a shape isn't stored so: there is no such grid; then, no such encoding
abbrev pub IsCreateFault : StorageMetadata → List ℕ → CreateFault → Type 0
IsCreateFault stored shape (NoGrid error) = IsGridFault stored.chunk_grid shape error
IsCreateFault stored shape (NoEncoding error) =
    ((grid : Grid) × IsGrid stored.chunk_grid shape grid) × IsEncodingFault stored.chunk_key_encoding error
IsCreateFault _ _ _ = ⊥

-- the grid and the encoding, or why they can't be made
abbrev pub array_of : StorageMetadata → List ℕ → Result (Grid × Encoding) CreateFault → Type 0
array_of stored shape (Ok array) = IsStored stored shape array.0 array.1
array_of stored shape (Err fault) = IsCreateFault stored shape fault
