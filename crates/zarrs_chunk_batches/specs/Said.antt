-- What a text of metadata says, and why one says nothing.
-- Source: Zarr V3 core, extension definition.
use Rattle.std.specs.Prelude.{◌≡◌, ℕ, List}
use Rattle.serde_json.specs.Data.{Data}
use Rattle.zarrs_chunk_base.specs.Grid.{Grid}
use Rattle.zarrs_chunk_base.specs.Json.{IsJsonOf}
use Rattle.zarrs_chunk_base.specs.declared.extension_error.ExtensionError.{ExtensionError}
use Rattle.zarrs_chunk_keys.specs.ChunkKey.{Encoding}
use Rattle.zarrs_chunk_keys.specs.KeyKinds.{IsEncodingIn, IsNoEncodingIn}
use Rattle.zarrs_chunks.specs.GridKinds.{GridKind, IsGridIn, IsNoGridIn}
use Rattle.zarrs_chunk_batches.specs.declared.codes.Fault.{Fault}
use Rattle.zarrs_chunk_batches.specs.declared.codes.Fault.TheVariants.{Extension, NotJson}

-- the text is the metadata of the grid, of an array of this shape
abbrev pub SaysGrid : List ℕ → List ℕ → Grid → Type 0
SaysGrid text shape grid = (tree : Data) × IsJsonOf text tree × ((kind : GridKind) × IsGridIn tree shape kind grid)

-- the text is the metadata of the encoding
abbrev pub SaysEncoding : List ℕ → Encoding → Type 0
SaysEncoding text encoding = (tree : Data) × IsJsonOf text tree × IsEncodingIn tree encoding

-- why nothing is made of a text: it is no JSON; or nothing is made of its tree
pub data IsSaidFault (IsRefused : Data → ExtensionError → Type 0) (text : List ℕ) (fault : Fault) : Type 0 where
  not_json : fault ≡ NotJson → ((tree : Data) → ¬ IsJsonOf text tree) → IsSaidFault IsRefused text fault
  no_extension : (error : ExtensionError) → fault ≡ Extension error → (tree : Data) → IsJsonOf text tree → IsRefused tree error
      → IsSaidFault IsRefused text fault

-- why a text says no grid of an array of this shape
abbrev pub IsNoGrid : List ℕ → List ℕ → Fault → Type 0
IsNoGrid text shape = IsSaidFault (λ tree. IsNoGridIn tree shape) text

-- why a text says no encoding
abbrev pub IsNoEncoding : List ℕ → Fault → Type 0
IsNoEncoding text = IsSaidFault IsNoEncodingIn text
