-- The configurations of chunk grids.
-- Sources: Zarr V3 core, regular grid; ZEP 3, variable chunks; the `rectilinear` extension of zarr-extensions.
use Rattle.std.specs.Prelude.{ℕ, ⊤, if◌then◌else◌, List, [], ◌∷◌, map, bytes_eq, Option, Some, None, option_and_then, option_map, codes}
use Rattle.serde_json.specs.Data.{Data, string, Members, no_members, member}
use Rattle.serde_json.specs.Find.{as_str}
use Rattle.zarrs_chunk_base.specs.Configuration.{Table, required, value_of}
use Rattle.zarrs_chunk_base.specs.declared.json.rectilinear_configuration.RectilinearChunkGridConfiguration.{RectilinearChunkGridConfiguration}
use Rattle.zarrs_chunk_base.specs.declared.json.rectilinear_configuration.RectilinearChunkGridConfiguration.TheVariants.{Inline}
use Rattle.zarrs_chunk_base.specs.DimensionEdges.{DimensionEdges, equal, listed}
use Rattle.zarrs_chunk_base.specs.Json.{edge_of, edge_or, list_of, list_tree, pair_of, size_tree}
use Rattle.zarrs_chunk_base.specs.RunLength.{EdgeLengths, Element, lengths_of, repeated, scalar, single, varying}

-- ---- `regular` and `zarrs.regular_bounded`: `chunk_shape`, a list of edges

abbrev pub regular_table : Table
regular_table = record { members = required (codes "chunk_shape") (list_of edge_of) ∷ []; expected = codes "`chunk_shape`" }

-- the edges that the members stand for
abbrev pub regular_value : Members → Option (List ℕ)
regular_value = value_of (codes "chunk_shape") (list_of edge_of)

-- the members that edges are written as
abbrev pub regular_members : List ℕ → Members
regular_members edges = member (codes "chunk_shape") (list_tree size_tree edges) no_members

-- ---- `rectangular`: `chunk_shape`, a list of edges and of lists of edges

-- an edge for all chunks of a dimension, or a list of their edges
abbrev pub dimension_edges_of : Data → Option DimensionEdges
dimension_edges_of = edge_or equal listed (list_of edge_of)

-- how the edges of a dimension are written
abbrev pub dimension_edges_tree : DimensionEdges → Data
dimension_edges_tree (equal edge) = size_tree edge
dimension_edges_tree (listed edges) = list_tree size_tree edges

abbrev pub rectangular_table : Table
rectangular_table = record { members = required (codes "chunk_shape") (list_of dimension_edges_of) ∷ []; expected = codes "`chunk_shape`" }

-- the edges of each dimension that the members stand for
abbrev pub rectangular_value : Members → Option (List DimensionEdges)
rectangular_value = value_of (codes "chunk_shape") (list_of dimension_edges_of)

-- the members that the edges of each dimension are written as
abbrev pub rectangular_members : List DimensionEdges → Members
rectangular_members edges = member (codes "chunk_shape") (list_tree dimension_edges_tree edges) no_members

-- ---- `rectilinear`: `kind`, the text `inline`, and `chunk_shapes`, a list of edges and of lists of run-length elements

-- an edge of one chunk, or a list of two: an edge and how many chunks in a row have it
abbrev pub element_in : Data → Option Element
element_in = edge_or single (λ pair. repeated pair.0 pair.1) (pair_of edge_of)

-- how an element is written
abbrev pub element_tree : Element → Data
element_tree (single edge) = size_tree edge
element_tree (repeated edge count) = list_tree size_tree (edge ∷ count ∷ [])

-- an edge for all chunks of a dimension, or a list of elements
abbrev pub lengths_in : Data → Option EdgeLengths
lengths_in = edge_or scalar varying (list_of element_in)

-- how the edges of a dimension are written
abbrev pub lengths_tree : EdgeLengths → Data
lengths_tree (scalar edge) = size_tree edge
lengths_tree (varying elements) = list_tree element_tree elements

-- the text `inline`
abbrev pub inline_in : Data → Option ⊤
inline_in d = option_and_then (λ text. if bytes_eq text (codes "inline") then Some tt else None) (as_str d)

abbrev pub rectilinear_table : Table
rectilinear_table = record {
  members = required (codes "chunk_shapes") (list_of lengths_in) ∷ required (codes "kind") inline_in ∷ [];
  expected = codes "`chunk_shapes` or `kind`";
}

-- the edges of each dimension that the members stand for
abbrev pub rectilinear_value : Members → Option (List EdgeLengths)
rectilinear_value members =
    option_and_then (λ lengths. option_map (λ _. lengths) (value_of (codes "kind") inline_in members))
    (value_of (codes "chunk_shapes") (list_of lengths_in) members)

-- the members that the edges of each dimension are written as
abbrev pub rectilinear_members : List EdgeLengths → Members
rectilinear_members lengths =
    member (codes "chunk_shapes") (list_tree lengths_tree lengths) (member (codes "kind") (string (codes "inline")) no_members)

-- the edges of each dimension that a value of the program holds
abbrev pub rectilinear_lengths : RectilinearChunkGridConfiguration → List EdgeLengths
rectilinear_lengths (Inline chunk_shapes) = map lengths_of chunk_shapes.items
