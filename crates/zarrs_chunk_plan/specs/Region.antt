-- Copies. A region, which is a box of elements of one array, goes to a box of the same shape in another array, or in the same one.
-- Source: this library's own.
use Rattle.std.specs.Prelude.{◌≡◌, ◌≢◌, ℕ, ◌+◌, ◌≤◌, List, [], ◌∷◌, length}
use Rattle.zarrs_chunk_base.specs.ArraySubset.{Box}
use Rattle.zarrs_chunk_base.specs.Refusal.{TellsLengths}
use Rattle.zarrs_chunk_axes.specs.InBounds.{AreBelow}
use Rattle.zarrs_chunks.specs.Walks.{counted_from}
use Rattle.zarrs_chunk_plan.specs.declared.copy.region_error.RegionError.{RegionError}
use Rattle.zarrs_chunk_plan.specs.declared.copy.region_error.RegionError.TheVariants.{Region, Target, At, PastSource, PastTarget}

-- a box, shifted by a list of numbers
abbrev pub shifted : List ℕ → Box → Box
shifted first b = record { start = counted_from first b.start; shape = b.shape }

-- the box of the region's shape that begins at `at`
abbrev pub moved : List ℕ → Box → Box
moved at region = record { start = at; shape = region.shape }

-- in each dimension the range ends at the size or before it
abbrev pub EndWithin : (start shape sizes : List ℕ) → Type 0
EndWithin [] [] [] = Unit {0}
EndWithin (first ∷ start) (count ∷ shape) (size ∷ sizes) = (first + count ≤ size) × EndWithin start shape sizes
EndWithin _ _ _ = ⊥

-- The box lies in an array of these sizes. An empty one does where it ends within the array.
abbrev pub LiesIn : Box → List ℕ → Type 0
LiesIn b sizes = EndWithin b.start b.shape sizes

-- the region lies in the source's array, and the moved box in the target's, by the sizes of each
pub record CanBeMoved (source target : List ℕ) (region : Box) (at : List ℕ) : Type 0 where
  pub in_source : LiesIn region source
  pub in_target : LiesIn (moved at region) target

-- The first fault: the region has another number of dimensions than the source's array; the target's array has; the index to begin at has;
-- the region doesn't lie in the source's array; the moved box doesn't lie in the target's.
abbrev pub IsRegionFault : (source target : List ℕ) → Box → List ℕ → RegionError → Type 0
IsRegionFault source target region at (Region e) = (length region.start ≢ length source) × TellsLengths (length region.start) (length source) e
IsRegionFault source target region at (Target e) =
    (length region.start ≡ length source) × (length target ≢ length source) × TellsLengths (length target) (length source) e
IsRegionFault source target region at (At e) =
    (length region.start ≡ length source) × (length target ≡ length source) × (length at ≢ length source)
    × TellsLengths (length at) (length source) e
IsRegionFault source target region at PastSource =
    (length region.start ≡ length source) × (length target ≡ length source) × (length at ≡ length source) × (¬ LiesIn region source)
IsRegionFault source target region at PastTarget =
    LiesIn region source × (length target ≡ length source) × (length at ≡ length source) × (¬ LiesIn (moved at region) target)

-- where an element of the region goes: it lies as far behind `at` as it lay behind the region's first element
pub record IsDestination (region : Box) (at index to : List ℕ) : Type 0 where
  pub behind : List ℕ
  pub below : AreBelow region.shape behind
  pub from : index ≡ counted_from region.start behind
  pub into : to ≡ counted_from at behind
