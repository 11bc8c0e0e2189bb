-- The members that a document may have, and those in which source and target have to agree.
-- Source: Zarr V3 core, array metadata; `at`, `chunks`, `clip`, `counts`, `include_unchanged`, `item_size`, `keys`, `max_elements`, `max_ranges`,
-- `memory_order`, `order`, `read_elements`, `resize`, `share`, `stage`, `subset`, `target` and `task_chunks` are this program's own.
use Rattle.std.specs.Prelude.{◌≡◌, ◌≢◌, ◌≤◌, ◌∷◌, ◌++◌}
use Rattle.programs.specs.chunkplan.Common.{ℕ, List, [], Some, codes, false, string_bytes, Data, depth, as_object, get, UnknownMember}
use Rattle.serde_json.specs.Data.{Members}
use Rattle.serde_json.specs.Read.{max_depth}
use Rattle.serde_json.specs.Written.{compact_text, has_float}
use Rattle.zarrs_chunk_base.specs.Configuration.{HasNoUnknown, IsLeastName, IsUnknown}

-- the members of an array's `zarr.json`
abbrev pub zarr_json_members : List (List ℕ)
zarr_json_members =
    codes "attributes" ∷ codes "chunk_grid" ∷ codes "chunk_key_encoding" ∷ codes "codecs" ∷ codes "data_type" ∷ codes "dimension_names"
    ∷ codes "fill_value" ∷ codes "node_type" ∷ codes "shape" ∷ codes "storage_transformers" ∷ codes "zarr_format" ∷ []

-- those of a document: these, and what is asked of the array
abbrev pub known_members : List (List ℕ)
known_members =
    zarr_json_members
    ++ codes "at" ∷ codes "chunks" ∷ codes "clip" ∷ codes "counts" ∷ codes "include_unchanged" ∷ codes "item_size" ∷ codes "keys"
    ∷ codes "max_elements" ∷ codes "max_ranges" ∷ codes "memory_order" ∷ codes "order" ∷ codes "read_elements" ∷ codes "resize"
    ∷ codes "share" ∷ codes "stage" ∷ codes "subset" ∷ codes "target" ∷ codes "task_chunks" ∷ []

-- each member of the object is one of these
abbrev pub HasOnly : List (List ℕ) → Data → Type 0
HasOnly known d = (members : Members) → as_object d ≡ Some members → HasNoUnknown known members

-- the first member of the object, in the order of the bytes of names, that is none of these
abbrev pub IsFirstUnknown : List (List ℕ) → Data → UnknownMember → Type 0
IsFirstUnknown known d told = (members : Members) × (as_object d ≡ Some members) × IsLeastName (IsUnknown known members) (string_bytes told.name)

-- Two values are the same. If their numbers are whole, so are their compact texts; if they nest no deeper than JSON that is read, so are they themselves.
pub record AreSame (one other : Data) : Type 0 where
  pub texts : has_float one ≡ false → has_float other ≡ false → compact_text one ≡ compact_text other
  pub values : depth one ≤ max_depth → depth other ≤ max_depth → one ≡ other

-- If both trees have the member, its values are the same.
abbrev pub Agree : List ℕ → Data → Data → Type 0
Agree field d other = (one also : Data) → get field d ≡ Some one → get field other ≡ Some also → AreSame one also

-- Both have it, and its compact text isn't the same. If each number is whole, this is the opposite of `Agree`. The text of any other number isn't known:
-- values with one are the same if they agree, and may be the same if they differ.
abbrev pub Differ : List ℕ → Data → Data → Type 0
Differ field d other = (one : Data) × (also : Data) × (get field d ≡ Some one) × (get field other ≡ Some also)
    × (has_float one ≡ false → has_float also ≡ false → compact_text one ≢ compact_text also)
