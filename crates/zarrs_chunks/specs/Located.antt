-- Where an element is stored.
-- Source: Zarr V3 core, chunk grids and chunk key encodings.
use Rattle.std.specs.Prelude.{ℕ, List}
use Rattle.zarrs_chunk_base.specs.Dimension.{Dimension, InBox, IsPlace}
use Rattle.zarrs_chunks.specs.declared.location.Located.{Located}

-- The chunk's box holds the index, the key is one of the chunk, and the place is the index's in the chunk.
pub record IsLocated (ds : List Dimension) (IsKey : List ℕ → List ℕ → Type 0) (index : List ℕ) (located : Located) : Type 0 where
  pub box : InBox ds located.chunk.items index
  pub key : IsKey located.chunk.items located.key
  pub place : IsPlace ds located.chunk.items index located.element.items
