-- The program's document: a JSON object with the members `shape`, `chunk_grid`, `chunk_key_encoding`
-- and `indices`, and where it has one, `keys`; what else it has says nothing.
use Rattle.std.specs.Prelude.{ℕ, List, [], map, Option, Some, None, Result, option_and_then, unwrap_or, codes, string_bytes}
use Rattle.serde_json.specs.Data.{Data}
use Rattle.serde_json.specs.Find.{get, as_str}
use Rattle.serde_json.specs.View.{view}
use Rattle.serde_json.specs.declared.value.Value.{Value}
use Rattle.zarrs_chunk_base.specs.Json.{size_of, list_of}
use Rattle.documents.specs.Document.{in_form, members_in, object_in, required, shape_in, stored_in}
use Rattle.documents.specs.Reading.{gives, then}
use Rattle.documents.specs.StorageMetadata.{StorageMetadata, stored_of}
use Rattle.documents.specs.declared.chunkwhere.document.Document.{Document as DocumentValue}
use Rattle.documents.specs.declared.document_fault.DocumentFault.{DocumentFault}

-- a document, without where it lies in memory
pub record Document : Type 0 where
  pub shape : List ℕ
  pub stored : StorageMetadata
  pub indices : List (List ℕ)
  pub keys : List (List ℕ)

-- the sizes that a tree is a list of; the empty list where it is none
abbrev pub sizes_in : Value → List ℕ
sizes_in tree = unwrap_or (list_of size_of (view tree)) []

-- the sizes of each of some trees
abbrev pub lists_in : List Value → List (List ℕ)
lists_in = map sizes_in

-- what a value of the program stands for
abbrev pub document_of : DocumentValue → Document
document_of d = record {
  shape = d.shape.items;
  stored = stored_of d.stored;
  indices = lists_in d.indices.items;
  keys = map string_bytes d.keys.items;
}

-- `indices`: a list of lists of sizes
abbrev pub indices_in : Data → Option (List (List ℕ))
indices_in d = option_and_then (list_of (list_of size_of)) (get (codes "indices") d)

-- the texts of a list; no texts where there is no list; nothing where it is no list of texts
abbrev pub texts_of : Option Data → Option (List (List ℕ))
texts_of None = Some []
texts_of (Some texts) = list_of as_str texts

-- `keys`: a list of texts, which may be absent
abbrev pub keys_in : Data → Option (List (List ℕ))
keys_in d = texts_of (get (codes "keys") d)

-- the document that an object stands for, or its first fault
abbrev pub form_in : Data → Result Document DocumentFault → Type 0
form_in d =
    then (members_in d) (λ _.
    then (required (codes "indices") (codes "indices") d) (λ _.
    then (shape_in (codes "shape") d) (λ shape.
    then (stored_in (codes "chunk_grid") (codes "chunk_key_encoding") d) (λ stored.
    then (in_form indices_in (codes "indices") d) (λ indices.
    then (in_form keys_in (codes "keys") d) (λ keys.
    gives (record { shape = shape; stored = stored; indices = indices; keys = keys })))))))

-- the document that an input is the text of, or its first fault
abbrev pub document_in : (input : List ℕ) → Result Document DocumentFault → Type 0
document_in input = then (object_in input) form_in
