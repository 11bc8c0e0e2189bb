-- How an axis of one edge that ends with the array is seen as a dimension, and that it is a chain.
use Rattle.std.specs.Prelude.{◌≡◌, ℕ, ◌+◌, ◌*◌, ◌/◌, ◌<◌, ◌≤◌, min, nat_lt}
use Rattle.std.proofs.Common.{sym, ⊎_elim, arith, ltb-true, lt-ltb, refl}
use Rattle.std.proofs.lemmas.Bool.{cases_lt}
use Rattle.std.proofs.lemmas.Grind.{div_ceil_times}
use Rattle.std.proofs.Math.Nat.{div-mul-le_self, min-eq_left, le-min}
use Rattle.std.specs.Int.{div_ceil}
use Rattle.std.specs.Int.NonZero.{non_zero_u64_get}
use Rattle.zarrs_chunk_axes.specs.lemmas.Multiples.{next_multiple, below_next, quotient_counted, ceil_least}
use Rattle.zarrs_chunk_axes.specs.declared.bounded_axis.BoundedAxis.{BoundedAxis}
use Rattle.zarrs_chunk_base.specs.Dimension.{Dimension, Holds, IsChain}
use Rattle.zarrs_chunk_base.specs.DimensionEdges.{DimensionEdges, equal, listed}
use Rattle.zarrs_chunk_axes.specs.Bounded.{IsBounded, IsBoundedBy}

-- the dimension of an array size and an edge
abbrev pub bounded_from : ℕ → ℕ → Dimension
bounded_from size edge = record {
  array_size = size;
  grid_size = div_ceil size edge;
  has_chunk = λ c. nat_lt (c * edge) size;
  start = λ c. c * edge;
  end = λ c. min ((c + 1) * edge) size;
}

-- an axis as a dimension
abbrev pub bounded_of : BoundedAxis → Dimension
bounded_of axis = bounded_from axis.array_size (non_zero_u64_get axis.edge)

-- what is below both is below the lesser
below_min : (n a b : ℕ) → n < a → n < b → n < min a b
below_min n a b h k =
    let both : n + 1 ≤ min a b = le-min (omega arith) (omega arith) in
    omega arith

-- the quotient is the chunk that an index within the array lies in
pub quotient_within : (a s i : ℕ) → 0 < s → i < a → Holds (bounded_from a s) (i / s) i
quotient_within a s i positive within =
    let low : i / s * s ≤ i = div-mul-le_self i s in
    record { chunk = lt-ltb (i / s * s) a (omega arith); from = low; below = below_min i _ a (below_next i s positive) within }

-- a number below the count has a chunk
counted : (a s c : ℕ) → 0 < s → c < div_ceil a s → c * s < a
counted a s c positive below =
    ⊎_elim (λ h. h)
    (λ (reached : a ≤ c * s). absurd (let least : div_ceil a s ≤ c = ceil_least a s c positive reached in omega arith)) (cases_lt (c * s) a)

pub bounded_is_chain : (axis : BoundedAxis) → IsChain (bounded_of axis)
bounded_is_chain axis =
    let edge = non_zero_u64_get axis.edge in
    let size = axis.array_size in
    let positive : 0 < edge = axis.edge.ok in
    record {
      from_zero = λ _. omega arith;
      not_empty = λ c has. below_min (c * edge) _ size (omega (arith, next_multiple c edge)) (ltb-true (c * edge) size has);
      no_gap = λ c has.
          let later : (c + 1) * edge < size = ltb-true ((c + 1) * edge) size has in
          let full : min ((c + 1) * edge) size ≡ (c + 1) * edge = min-eq_left (omega arith) in
          (lt-ltb (c * edge) size (omega (arith, next_multiple c edge)), sym full);
      counted = λ c below. lt-ltb (c * edge) size (counted size edge c positive below);
      reaches = λ i within. (i / edge, quotient_counted size edge i positive within, quotient_within size edge i positive within);
    }

pub bounded_size : (d : Dimension) (size : ℕ) (edges : DimensionEdges) → IsBoundedBy d size edges → d.array_size ≡ size
bounded_size d size (equal edge) is = is.array_size
bounded_size d size (listed edges) is = absurd is

pub bounded_is_made : (axis : BoundedAxis) → IsBounded (bounded_of axis) axis.array_size (non_zero_u64_get axis.edge)
bounded_is_made axis =
    let edge = non_zero_u64_get axis.edge in
    let size = axis.array_size in
    record {
      array_size = refl;
      chunks = λ c. (ltb-true (c * edge) size, lt-ltb (c * edge) size);
      start = λ c _. refl;
      end = λ c _. refl;
      covers = (div_ceil_times size edge axis.edge.ok).0;
      least = λ n. ceil_least size edge n axis.edge.ok;
    }
