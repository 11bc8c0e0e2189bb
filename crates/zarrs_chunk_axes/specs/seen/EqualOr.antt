-- How an axis of one edge or of another kind is seen as a dimension, and that it is a chain.
use Rattle.std.specs.Int.NonZero.{non_zero_u64_get}
use Rattle.zarrs_chunk_base.specs.Dimension.{Dimension, IsChain}
use Rattle.zarrs_chunk_base.specs.DimensionEdges.{DimensionEdges, equal}
use Rattle.zarrs_chunk_axes.specs.EqualOrListed.{IsEqualOrListed}
use Rattle.zarrs_chunk_axes.specs.seen.EqualAxis.{equal_of, equal_is_chain, equal_is_made}
use Rattle.zarrs_chunk_axes.specs.declared.equal_or.EqualOr.{EqualOr}
use Rattle.zarrs_chunk_axes.specs.declared.equal_or.EqualOr.TheVariants.{Equal, Other}

-- an axis as a dimension, where those of the other kind are seen so
abbrev pub equal_or : {A : Type 0} → (A → Dimension) → EqualOr A → Dimension
equal_or dimension (Equal axis) = equal_of axis
equal_or dimension (Other axis) = dimension axis

-- the edges that it was made with
abbrev pub equal_or_edges : {A : Type 0} → (A → DimensionEdges) → EqualOr A → DimensionEdges
equal_or_edges edges (Equal axis) = equal (non_zero_u64_get axis.edge)
equal_or_edges edges (Other axis) = edges axis

pub equal_or_is_chain : {A : Type 0} (dimension : A → Dimension) → ((axis : A) → IsChain (dimension axis)) → (axis : EqualOr A)
    → IsChain (equal_or dimension axis)
equal_or_is_chain dimension chained (Equal axis) = equal_is_chain axis
equal_or_is_chain dimension chained (Other axis) = chained axis

-- it is of one edge or of listed ones, where those of the other kind are
pub equal_or_is_made : {A : Type 0} (dimension : A → Dimension) (edges : A → DimensionEdges)
    → ((axis : A) → IsEqualOrListed (dimension axis) (dimension axis).array_size (edges axis))
    → (axis : EqualOr A) → IsEqualOrListed (equal_or dimension axis) (equal_or dimension axis).array_size (equal_or_edges edges axis)
equal_or_is_made dimension edges made (Equal axis) = equal_is_made axis
equal_or_is_made dimension edges made (Other axis) = made axis
