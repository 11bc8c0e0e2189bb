-- The answer to a document, and the first fault of one that has none.
use Rattle.std.specs.Prelude.{◌≡◌, ◌≢◌, ℕ, zero, suc, List, [], ◌∷◌, length, Result, Ok, Err}
use Rattle.std.specs.List.{AllByRecursion}
use Rattle.zarrs_chunk_base.specs.Dimension.{Dimension}
use Rattle.zarrs_chunk_base.specs.Grid.{Grid}
use Rattle.zarrs_chunk_base.specs.Refusal.{TellsLengths}
use Rattle.zarrs_chunk_base.specs.declared.incompatible_dimensionality_error.IncompatibleDimensionalityError.{IncompatibleDimensionalityError}
use Rattle.zarrs_chunk_keys.specs.ChunkKey.{Encoding, IsKey}
use Rattle.documents.specs.Reading.{then, told}
use Rattle.documents.specs.StorageMetadata.{array_of}
use Rattle.documents.specs.chunkwhere.Document.{Document}
use Rattle.documents.specs.chunkwhere.Output.{IsOutput}
use Rattle.documents.specs.chunkwhere.RunFault.{of_create}
use Rattle.documents.specs.declared.chunkwhere.run_fault.RunFault.{RunFault}
use Rattle.documents.specs.declared.chunkwhere.run_fault.RunFault.TheVariants.{Index}

-- the index has a number for each dimension
abbrev pub HasLengthOf : List Dimension → List ℕ → Type 0
HasLengthOf dimensions index = length index ≡ length dimensions

-- the first index of a wrong length is at the position, counted from 0
abbrev pub IsFirstWrongLength : List Dimension → List (List ℕ) → ℕ → IncompatibleDimensionalityError → Type 0
IsFirstWrongLength dimensions [] position e = ⊥
IsFirstWrongLength dimensions (index ∷ indices) zero e = (length index ≢ length dimensions) × TellsLengths (length index) (length dimensions) e
IsFirstWrongLength dimensions (index ∷ indices) (suc position) e = HasLengthOf dimensions index × IsFirstWrongLength dimensions indices position e

-- the fault says which index has a wrong length
abbrev pub IsIndexFault : List Dimension → List (List ℕ) → RunFault → Type 0
IsIndexFault dimensions indices (Index position e) = IsFirstWrongLength dimensions indices position e
IsIndexFault _ _ _ = ⊥

-- the text that a document gets of the grid and the encoding by which its array is stored; or an index has a wrong length
abbrev pub output_of : Document → (array : Grid × Encoding) → Result (List ℕ) RunFault → Type 0
output_of document array (Ok text) = AllByRecursion (HasLengthOf array.0.dimensions) document.indices
    × IsOutput array.0.dimensions (IsKey array.1) document.indices document.keys text
output_of document array (Err fault) = IsIndexFault array.0.dimensions document.indices fault

-- The text that answers a document, or its first fault: of the grid, the encoding, or the first index with a wrong length.
abbrev pub answer_of : Document → Result (List ℕ) RunFault → Type 0
answer_of document = then (told of_create (array_of document.stored document.shape)) (output_of document)
