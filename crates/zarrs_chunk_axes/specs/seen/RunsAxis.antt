-- How an axis of edges kept as runs is seen as a dimension, and that it is a chain.
use Rattle.std.specs.Prelude.{ℕ, List}
use Rattle.zarrs_chunk_base.specs.Dimension.{Dimension, IsChain}
use Rattle.zarrs_chunk_base.specs.DimensionEdges.{DimensionEdges, listed}
use Rattle.zarrs_chunk_runs.specs.lemmas.Positive.{edges_are_positive}
use Rattle.zarrs_chunk_runs.specs.seen.RunEdges.{expanded}
use Rattle.zarrs_chunk_axes.specs.Listed.{IsListed}
use Rattle.zarrs_chunk_axes.specs.declared.runs_axis.RunsAxis.{RunsAxis}
use Rattle.zarrs_chunk_axes.specs.seen.ListedEdges.{listed_from, listed_from_is_chain, listed_from_is_made}

-- how many elements each chunk has
abbrev pub run_edges_in : RunsAxis → List ℕ
run_edges_in axis = expanded axis.edges

-- the edges that it was made with
abbrev pub runs_edges : RunsAxis → DimensionEdges
runs_edges axis = listed (run_edges_in axis)

-- an axis as a dimension
abbrev pub runs_dimension : RunsAxis → Dimension
runs_dimension axis = listed_from axis.array_size (run_edges_in axis)

pub runs_is_chain : (axis : RunsAxis) → IsChain (runs_dimension axis)
runs_is_chain axis = listed_from_is_chain axis.array_size (run_edges_in axis) (edges_are_positive axis.edges) axis.covers

pub runs_is_made : (axis : RunsAxis) → IsListed (runs_dimension axis) axis.array_size (run_edges_in axis)
runs_is_made axis = listed_from_is_made axis.array_size (run_edges_in axis)
