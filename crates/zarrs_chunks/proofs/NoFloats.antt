-- The forms of configurations have no floats: their numbers are sizes and edges.
use Rattle.std.proofs.Common.{◌≡◌, ◌||◌, ℕ, false, List, [], ◌∷◌, ap₂, map, refl}
use Rattle.serde_json.specs.Data.{Data}
use Rattle.serde_json.specs.View.{items_of}
use Rattle.serde_json.specs.Written.{has_float, items_have_float}
use Rattle.zarrs_chunk_base.specs.DimensionEdges.{DimensionEdges, equal, listed}
use Rattle.zarrs_chunk_base.specs.GridConfigurations.{dimension_edges_tree, element_tree, lengths_tree}
use Rattle.zarrs_chunk_base.specs.Json.{list_tree, size_tree}
use Rattle.zarrs_chunk_base.specs.RunLength.{EdgeLengths, Element, repeated, scalar, single, varying}

pub no_float_mapped : {X : Type 0} (tree : X → Data) → ((x : X) → has_float (tree x) ≡ false) → (xs : List X)
    → items_have_float (items_of (map tree xs)) ≡ false
no_float_mapped tree each [] = refl
no_float_mapped tree each (x ∷ xs) = ap₂ (λ a b. a || b) (each x) (no_float_mapped tree each xs)

pub no_float_in_list : {X : Type 0} (tree : X → Data) → ((x : X) → has_float (tree x) ≡ false) → (xs : List X) → has_float (list_tree tree xs) ≡ false
no_float_in_list tree each xs = no_float_mapped tree each xs

pub no_float_in_numbers : (xs : List ℕ) → has_float (list_tree size_tree xs) ≡ false
no_float_in_numbers = no_float_in_list size_tree (λ n. refl)

pub no_float_in_edges : (e : DimensionEdges) → has_float (dimension_edges_tree e) ≡ false
no_float_in_edges (equal edge) = refl
no_float_in_edges (listed edges) = no_float_in_numbers edges

no_float_in_element : (e : Element) → has_float (element_tree e) ≡ false
no_float_in_element (single edge) = refl
no_float_in_element (repeated edge count) = no_float_in_numbers (edge ∷ count ∷ [])

pub no_float_in_lengths : (l : EdgeLengths) → has_float (lengths_tree l) ≡ false
no_float_in_lengths (scalar edge) = refl
no_float_in_lengths (varying elements) = no_float_in_list element_tree no_float_in_element elements
