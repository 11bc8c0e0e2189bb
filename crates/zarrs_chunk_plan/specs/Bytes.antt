-- Which bytes of a chunk's object hold the elements of a box, where the object is the chunk's elements one behind another, each in as many bytes.
-- Sources: Zarr V3 core, `bytes` codec, which writes elements in lexicographical order of their indices, and `transpose` codec; Zarr V2, `order`; the
-- ranges are this library's own.
use Rattle.std.specs.Prelude.{◌≡◌, ◌↔◌, ℕ, zero, suc, ◌+◌, ◌-◌, ◌*◌, ◌<◌, ◌≤◌, List, [], ◌∷◌, ◌++◌, map, reverse, ◌⊎◌, Option, MatchOption, get_or, length}
use Rattle.std.specs.List.{AllPairs, Contains}
use Rattle.zarrs_chunk_base.specs.ArraySubset.{AreWithin}
use Rattle.zarrs_chunk_base.specs.Greatest.{greatest}
use Rattle.zarrs_chunk_plan.specs.Counts.{product}
use Rattle.zarrs_chunk_plan.specs.Region.{EndWithin}
use Rattle.zarrs_chunk_plan.specs.declared.bytes.ranges.ByteRanges.{ByteRanges}
use Rattle.zarrs_chunk_plan.specs.declared.bytes.ranges.MemoryOrder.{MemoryOrder}
use Rattle.zarrs_chunk_plan.specs.declared.bytes.ranges.MemoryOrder.TheVariants.{C, F}

-- a list of a number for each dimension, the outermost first: row-major ("C"), or column-major ("F"), where the first dimension is the innermost
abbrev pub in_order : MemoryOrder → List ℕ → List ℕ
in_order C numbers = numbers
in_order F numbers = reverse numbers

-- how many elements of a chunk with these edges come before the one at these indices, in row-major order
abbrev pub place : (edges index : List ℕ) → ℕ
place (edge ∷ edges) (i ∷ index) = i * product edges + place edges index
place _ _ = 0

-- how many elements of a box come before the one at these indices, in row-major order
abbrev pub place_within : (start shape index : List ℕ) → ℕ
place_within (s ∷ start) (n ∷ shape) (i ∷ index) = (i - s) * product shape + place_within start shape index
place_within _ _ _ = 0

-- the byte is one of those in which the element at these indices is stored, each element in `item` bytes
abbrev pub IsByteOf : (item : ℕ) (edges index : List ℕ) → ℕ → Type 0
IsByteOf item edges index byte = (place edges index * item ≤ byte) × (byte < place edges index * item + item)

-- the byte is one of those of some element of a box, in a chunk that is stored in this order
abbrev pub IsByteIn : (item : ℕ) → MemoryOrder → (edges start shape : List ℕ) → ℕ → Type 0
IsByteIn item order edges start shape byte =
    (index : List ℕ) × AreWithin start shape index × IsByteOf item (in_order order edges) (in_order order index) byte

-- The byte `from` of a chunk's object is the byte `to` of the elements of a box, one after another in the order of the chunk. Both are the same byte of
-- one element.
pub record GoesTo (item : ℕ) (order : MemoryOrder) (edges start shape : List ℕ) (from to : ℕ) : Type 0 where
  pub index : List ℕ
  pub within : AreWithin start shape index
  pub byte : ℕ
  pub of_element : byte < item
  pub in_chunk : from ≡ place (in_order order edges) (in_order order index) * item + byte
  pub in_box : to ≡ place_within (in_order order start) (in_order order shape) (in_order order index) * item + byte

-- so many times the same numbers, each time greater by a stride
abbrev pub repeated : (count stride : ℕ) → List ℕ → List ℕ
repeated zero stride numbers = []
repeated (suc count) stride numbers = numbers ++ repeated count stride (map (λ n. n + stride) numbers)

-- where ranges begin: the first one, and along each of some dimensions, the outermost first, so many, each by a stride behind the one before
abbrev pub begins : (first : ℕ) (counts strides : List ℕ) → List ℕ
begins first (count ∷ counts) (stride ∷ strides) = repeated count stride (begins first counts strides)
begins first _ _ = first ∷ []

-- one of the numbers is past the greatest that the program has
abbrev pub HasPast : List ℕ → Type 0
HasPast numbers = (n : ℕ) × Contains numbers n × (greatest < n)

-- a range that begins at one of these numbers, and is so long, has the byte
abbrev pub HasByte : (length : ℕ) (numbers : List ℕ) → ℕ → Type 0
HasByte length numbers byte = (n : ℕ) × Contains numbers n × (n ≤ byte) × (byte < n + length)

-- The ranges, each so long, that begin at these numbers: together they have the bytes of the box's elements; and each begins past the end of those
-- before it, so they come in order, no byte is in two of them, and no two can be joined. One after another they are the bytes of the box's elements, in
-- the order of the chunk.
pub record AreRanges (item : ℕ) (order : MemoryOrder) (edges start shape : List ℕ) (many : ℕ) (numbers : List ℕ) : Type 0 where
  pub those : (byte : ℕ) → IsByteIn item order edges start shape byte ↔ HasByte many numbers byte
  pub apart : AllPairs (λ one later. one + many < later) numbers
  pub in_turn : (number byte : ℕ) → number < length numbers → byte < many
      → GoesTo item order edges start shape (get_or numbers number 0 + byte) (number * many + byte)

-- The ranges that are found of a box: it lies in the chunk, and unless it is empty a number counts the chunk's bytes. There are as many counts as
-- strides; an empty box has no range, and of another one each range has some byte.
pub record AreRangesOf (item : ℕ) (order : MemoryOrder) (edges start shape : List ℕ) (ranges : ByteRanges) : Type 0 where
  pub lies : EndWithin start shape edges
  pub counted : (¬ Contains shape 0) → product edges * item ≤ greatest
  pub lists : length ranges.counts.items ≡ length ranges.strides.items
  pub none : Contains shape 0 → begins ranges.first ranges.counts.items ranges.strides.items ≡ []
  pub some : (¬ Contains shape 0) → 0 < ranges.length
  pub are_ranges : AreRanges item order edges start shape ranges.length (begins ranges.first ranges.counts.items ranges.strides.items)

-- and none, where the box doesn't lie in the chunk, or isn't empty and no number counts the chunk's bytes
abbrev pub FindsRanges : (item : ℕ) → MemoryOrder → (edges start shape : List ℕ) → Option ByteRanges → Type 0
FindsRanges item order edges start shape found =
    MatchOption found ((¬ EndWithin start shape edges) ⊎ ((¬ Contains shape 0) × (greatest < product edges * item)))
    (AreRangesOf item order edges start shape)
