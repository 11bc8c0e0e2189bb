-- The strided form of byte ranges, which is the one that is answered: ranges of one length, so many along each of some dimensions, by a stride.
-- That these are the bytes of the box's elements is the law `byte_ranges_have_the_bytes_of_the_box`. Source: this library's own.
use Rattle.std.specs.Prelude.{ℕ, ◌+◌, ◌*◌, ◌==◌, ◌&&◌, Bool, true, false, cond, nat_le, List, [], ◌∷◌, Option, Some, None}
use Rattle.std.specs.List.{list_any}
use Rattle.zarrs_chunk_base.specs.Greatest.{greatest}
use Rattle.zarrs_chunk_plan.specs.Bytes.{in_order}
use Rattle.zarrs_chunk_plan.specs.Counts.{product}
use Rattle.zarrs_chunk_plan.specs.declared.bytes.ranges.ByteRanges.{ByteRanges}
use Rattle.zarrs_chunk_plan.specs.declared.bytes.ranges.MemoryOrder.{MemoryOrder}

pub record Strided : Type 0 where
  pub first : ℕ
  pub length : ℕ
  pub counts : List ℕ
  pub strides : List ℕ

-- the form of an answer
abbrev pub form_of : ByteRanges → Strided
form_of ranges =
    record { first = ranges.first; length = ranges.length; counts = ranges.counts.items; strides = ranges.strides.items }

-- the box has all of the chunk
abbrev pub has_all : (edges shape : List ℕ) → Bool
has_all (edge ∷ edges) (n ∷ shape) = has_all edges shape && (n == edge)
has_all _ _ = true

-- One dimension further out: the box has so many rows of the chunk from one on. Where it has all of a row, they are one range; else each is ranges of
-- its own.
abbrev pub along : (row start count : ℕ) → (whole : Bool) → Strided → Strided
along row start count true inner =
    record { first = inner.first + start * row; length = count * row; counts = inner.counts; strides = inner.strides }
along row start count false inner =
    record { first = inner.first + start * row; length = inner.length; counts = count ∷ inner.counts; strides = row ∷ inner.strides }

-- the ranges of a box that isn't empty, in a row-major chunk
abbrev pub strided : (item : ℕ) → (edges start shape : List ℕ) → Strided
strided item (edge ∷ edges) (s ∷ start) (n ∷ shape) =
    along (product edges * item) s n (has_all edges shape) (strided item edges start shape)
strided item _ _ _ = record { first = 0; length = item; counts = []; strides = [] }

-- those of an empty box
abbrev pub no_ranges : Strided
no_ranges = record { first = 0; length = 0; counts = 0 ∷ []; strides = 0 ∷ [] }

-- whether a box lies in a chunk, and whether it is empty, as tests
abbrev pub lies_in : (start shape edges : List ℕ) → Bool
lies_in [] [] [] = true
lies_in (s ∷ start) (n ∷ shape) (edge ∷ edges) = cond (nat_le (s + n) edge) (lies_in start shape edges) false
lies_in _ _ _ = false

abbrev pub has_zero : List ℕ → Bool
has_zero = list_any (λ n. n == 0)

-- The ranges that are answered of a box: `None`, where it doesn't lie in the chunk, or isn't empty and no number counts the chunk's bytes.
abbrev pub ranges_of : (item : ℕ) → MemoryOrder → (edges start shape : List ℕ) → Option Strided
ranges_of item order edges start shape =
    cond (lies_in start shape edges)
    (cond (has_zero shape) (Some no_ranges)
    (cond (nat_le (product edges * item) greatest) (Some (strided item (in_order order edges) (in_order order start) (in_order order shape))) None))
    None
