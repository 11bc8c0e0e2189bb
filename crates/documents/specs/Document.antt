-- What the documents of the programs have in common: an object of JSON with an array's `shape`, and members that are extensions' metadata.
-- Source: RFC 8259; Zarr V3 core, array metadata and extension definition.
use Rattle.std.specs.Prelude.{◌≡◌, ℕ, List, IsSome, Option, Some, None, Result, Ok, Err, codes}
use Rattle.serde_json.specs.Data.{Data}
use Rattle.serde_json.specs.Find.{as_object, get}
use Rattle.zarrs_chunk_base.specs.Json.{IsJsonOf, size_of, list_of}
use Rattle.zarrs_chunk_base.specs.Metadata.{Extension, IsExtension, IsMetadataFault}
use Rattle.documents.specs.Reading.{gives, optional, then}
use Rattle.documents.specs.StorageMetadata.{StorageMetadata}
use Rattle.documents.specs.declared.document_fault.DocumentFault.{DocumentFault}
use Rattle.documents.specs.declared.document_fault.DocumentFault.TheVariants.{NotJson, NotObject, Missing, WrongValue, Metadata}

-- the object that bytes are the text of; or they are no JSON, or no object
abbrev pub object_in : (input : List ℕ) → Result Data DocumentFault → Type 0
object_in input (Ok d) = IsJsonOf input d × IsSome (as_object d)
object_in input (Err NotJson) = (tree : Data) → ¬ IsJsonOf input tree
object_in input (Err NotObject) = (tree : Data) × IsJsonOf input tree × (as_object tree ≡ None)
object_in input (Err _) = ⊥

-- a member that has to be there; a fault calls it by the name
abbrev pub required : (field name : List ℕ) → Data → Result Data DocumentFault → Type 0
required field name d (Ok m) = get field d ≡ Some m
required field name d (Err (Missing by)) = (by.now ≡ name) × (get field d ≡ None)
required field name d (Err _) = ⊥

-- the members that say what an array is are there, or the first that isn't
abbrev pub members_in : Data → Result (Unit {0}) DocumentFault → Type 0
members_in d =
    then (required (codes "shape") (codes "shape") d) (λ _.
    then (required (codes "chunk_grid") (codes "chunk_grid") d) (λ _.
    then (required (codes "chunk_key_encoding") (codes "chunk_key_encoding") d) (λ _.
    gives tt)))

-- a value that has to be of a form, as the member of this name
abbrev pub in_form : {X : Type 0} → (form : Data → Option X) → (name : List ℕ) → Data → Result X DocumentFault → Type 0
in_form form name value (Ok x) = form value ≡ Some x
in_form form name value (Err (WrongValue by)) = (by.now ≡ name) × (form value ≡ None)
in_form form name value (Err _) = ⊥

-- a member that is of a form, if there is one
abbrev pub optional_in : {X : Type 0} → (form : Data → Option X) → (field : List ℕ) → Data → Result (Option X) DocumentFault → Type 0
optional_in form field d = optional (gives None) (λ m. then (in_form form field m) (λ x. gives (Some x))) (get field d)

-- and what stands for it, if it is absent
abbrev pub in_form_or : {X : Type 0} → (absent : X) → (form : Data → Option X) → (field : List ℕ) → Data → Result X DocumentFault → Type 0
in_form_or absent form field d = optional (gives absent) (in_form form field) (get field d)

-- `shape`: a list of sizes
abbrev pub shape_in : (name : List ℕ) → Data → Result (List ℕ) DocumentFault → Type 0
shape_in name d = then (required (codes "shape") name d) (in_form (list_of size_of) name)

-- an extension's metadata, or why a value isn't an extension's metadata
abbrev pub extension_in : (name : List ℕ) → Data → Result Extension DocumentFault → Type 0
extension_in name value (Ok e) = IsExtension value e
extension_in name value (Err (Metadata by error)) = (by.now ≡ name) × IsMetadataFault value error
extension_in name value (Err _) = ⊥

-- How an array is stored: `chunk_grid` and `chunk_key_encoding`, which a fault calls by these names. Both have to be there, and then to be of
-- their form.
abbrev pub stored_in : (grid_name encoding_name : List ℕ) → Data → Result StorageMetadata DocumentFault → Type 0
stored_in grid_name encoding_name d =
    then (required (codes "chunk_grid") grid_name d) (λ grid.
    then (required (codes "chunk_key_encoding") encoding_name d) (λ encoding.
    then (extension_in grid_name grid) (λ chunk_grid.
    then (extension_in encoding_name encoding) (λ chunk_key_encoding.
    gives (record { chunk_grid = chunk_grid; chunk_key_encoding = chunk_key_encoding })))))
