use Rattle.std.proofs.Common.{ℕ, ◌+◌, ◌≤◌, length, map}
use Rattle.std.specs.Vec.{vec_capacity}
use Rattle.zarrs_chunk_base.specs.Dimension.{Holds}
use Rattle.zarrs_chunk_runs.specs.seen.Comparisons.{count_of}
use Rattle.zarrs_chunk_axes.specs.seen.EqualOr.{equal_or, equal_or_edges}
use Rattle.zarrs_chunk_axes.specs.seen.RunsAxis.{runs_dimension, runs_edges}
use Rattle.zarrs_chunk_axes.specs.seen.Searched.{AreSearched}
use Rattle.zarrs_chunk_axes.proofs.EachSoFar.{EachSoFar}
use Rattle.zarrs_chunk_axes.proofs.axis_grid.counted.find_chunks.Given as goal

-- what the rests answer decides what all answer; where they are searched, all are; and there is room for them
abbrev pub invariant-loop-axis : goal.invariant-loop-axis
invariant-loop-axis l =
    let rest = l.axis-iterator.a.rest.now in
    let dimensions = map (equal_or runs_dimension) in
    let edges = map (equal_or_edges runs_edges) in
    EachSoFar (λ d i c. Holds d c i) (λ d i. (c : ℕ) → ¬ Holds d c i) (dimensions l.axes) l.indices
    (dimensions rest) l.axis-iterator.b.rest.now l.chunk.items
    × ((next : ℕ) → AreSearched (dimensions rest) (edges rest) l.axis-iterator.b.rest.now (count_of l.comparisons) next
    → AreSearched (dimensions l.axes) (edges l.axes) l.indices (count_of l.fn.comparisons) next)
    × (length l.chunk.items + length rest ≤ vec_capacity l.chunk)
