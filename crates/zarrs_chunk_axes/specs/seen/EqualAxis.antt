-- How an axis of one edge is seen as a dimension, and that it is a chain.
use Rattle.std.specs.Prelude.{ℕ, ◌+◌, ◌*◌, ◌/◌, ◌<◌, true, refl}
use Rattle.std.proofs.Common.{arith}
use Rattle.std.proofs.Math.Nat.{div-mul-le_self}
use Rattle.std.proofs.lemmas.Grind.{div_ceil_times}
use Rattle.std.specs.Int.{div_ceil}
use Rattle.std.specs.Int.NonZero.{non_zero_u64_get}
use Rattle.zarrs_chunk_axes.specs.lemmas.Multiples.{ceil_least, next_multiple, below_next, quotient_counted}
use Rattle.zarrs_chunk_axes.specs.declared.equal_axis.EqualAxis.{EqualAxis}
use Rattle.zarrs_chunk_base.specs.Dimension.{Dimension, Holds, IsChain}
use Rattle.zarrs_chunk_axes.specs.EqualEdges.{IsEqualEdges}

-- the dimension of an array size and an edge
abbrev pub equal_from : ℕ → ℕ → Dimension
equal_from size edge =
    record { array_size = size; grid_size = div_ceil size edge; has_chunk = λ c. true; start = λ c. c * edge; end = λ c. (c + 1) * edge }

-- an axis as a dimension
abbrev pub equal_of : EqualAxis → Dimension
equal_of axis = equal_from axis.array_size (non_zero_u64_get axis.edge)

-- the quotient is the chunk that an index lies in
pub quotient_holds : (a s i : ℕ) → 0 < s → Holds (equal_from a s) (i / s) i
quotient_holds a s i positive = record { chunk = refl; from = div-mul-le_self i s; below = below_next i s positive }

pub equal_is_chain : (axis : EqualAxis) → IsChain (equal_of axis)
equal_is_chain axis =
    let edge = non_zero_u64_get axis.edge in
    let positive : 0 < edge = axis.edge.ok in
    record {
      from_zero = λ _. omega arith;
      not_empty = λ c _. omega (arith, next_multiple c edge);
      no_gap = λ c _. (refl, refl);
      counted = λ c _. refl;
      reaches = λ i within. (i / edge, quotient_counted axis.array_size edge i positive within, quotient_holds axis.array_size edge i positive);
    }

-- its edges are equal
pub equal_edges : (a s : ℕ) → 0 < s → IsEqualEdges (equal_from a s) a s
equal_edges a s positive = record {
  array_size = refl;
  chunks = λ c. refl;
  start = λ c. refl;
  end = λ c. refl;
  covers = (div_ceil_times a s positive).0;
  least = λ n. ceil_least a s n positive;
}

pub equal_is_made : (axis : EqualAxis) → IsEqualEdges (equal_of axis) axis.array_size (non_zero_u64_get axis.edge)
equal_is_made axis = equal_edges axis.array_size (non_zero_u64_get axis.edge) axis.edge.ok
