-- Axes of one edge are dimensions of equal edges.
use Rattle.std.proofs.Common.{◌≡◌, ℕ, ◌+◌, ◌*◌, List, [], ◌∷◌, map, arith}
use Rattle.std.specs.Int.NonZero.{non_zero_u64_get}
use Rattle.zarrs_chunk_base.specs.Dimension.{Dimension}
use Rattle.zarrs_chunk_base.proofs.InEach.{values_are}
use Rattle.zarrs_chunk_axes.specs.declared.equal_axis.EqualAxis.{EqualAxis}
use Rattle.zarrs_chunk_axes.specs.seen.EqualAxis.{equal_edges, equal_of}
use Rattle.zarrs_chunk_axes.specs.EqualEdges.{IsEqualEdges, AreEqualEdges, HaveEqualEdges}

-- an edge is where the first chunk ends
pub edges_are : (ds : List Dimension) (shape edges : List ℕ) → AreEqualEdges ds shape edges → edges ≡ map (λ d. d.end 0) ds
edges_are = values_are IsEqualEdges (λ d. d.end 0) (λ d size edge is. let end : d.end 0 ≡ (0 + 1) * edge = is.end 0 in omega arith)

-- where the first chunk ends is the edge
pub have_edges : (axes : List EqualAxis) → HaveEqualEdges (map equal_of axes) (map (λ d. d.end 0) (map equal_of axes))
have_edges [] = tt
have_edges (axis ∷ axes) =
    let edge = non_zero_u64_get axis.edge in
    let first : (0 + 1) * edge ≡ edge = omega arith in
    (rw first (equal_edges axis.array_size edge axis.edge.ok), have_edges axes)
