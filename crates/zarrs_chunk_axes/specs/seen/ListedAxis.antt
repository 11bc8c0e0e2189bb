-- How an axis of listed edges, of which it keeps the running sums, is seen as a dimension, and that it is a chain.
use Rattle.std.specs.Prelude.{ℕ, zero, suc, ◌<◌, List, [], ◌∷◌, length, get_or}
use Rattle.std.proofs.Common.{arith}
use Rattle.zarrs_chunk_base.specs.Dimension.{Dimension, IsChain}
use Rattle.zarrs_chunk_axes.specs.Listed.{IsListed}
use Rattle.zarrs_chunk_axes.specs.declared.listed_axis.ListedAxis.{ListedAxis}
use Rattle.zarrs_chunk_axes.specs.lemmas.Running.{Rises, edges_between}
use Rattle.zarrs_chunk_axes.specs.seen.ListedEdges.{listed_from, listed_from_is_chain, listed_from_is_made}

-- how many elements each chunk has
abbrev pub edges_in : ListedAxis → List ℕ
edges_in axis = edges_between 0 axis.ends.items

-- an axis as a dimension
abbrev pub listed_of : ListedAxis → Dimension
listed_of axis = listed_from axis.array_size (edges_in axis)

-- an edge isn't 0
pub positive_edge : (start : ℕ) (ends : List ℕ) → Rises start ends → (c : ℕ) → c < length (edges_between start ends)
    → 0 < get_or (edges_between start ends) c 0
positive_edge start [] rises c within = absurd (omega arith)
positive_edge start (end ∷ ends) rises zero within = let first = rises.0 in omega arith
positive_edge start (end ∷ ends) rises (suc c) within = positive_edge end ends rises.1 c (omega arith)

pub listed_is_chain : (axis : ListedAxis) → IsChain (listed_of axis)
listed_is_chain axis = listed_from_is_chain axis.array_size (edges_in axis) (positive_edge 0 axis.ends.items axis.rising) axis.covers

pub listed_is_made : (axis : ListedAxis) → IsListed (listed_of axis) axis.array_size (edges_in axis)
listed_is_made axis = listed_from_is_made axis.array_size (edges_in axis)
