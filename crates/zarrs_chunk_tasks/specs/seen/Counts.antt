-- How the tasks of a copy are counted, along each dimension by itself.
use Rattle.std.specs.Prelude.{◌≡◌, ℕ, ◌+◌, ◌-◌, ◌*◌, ◌<◌, ◌≤◌, List, [], ◌∷◌, fold, length, map, max, min, slice_index_or}
use Rattle.std.specs.Int.NonZero.{non_zero_u64_get}
use Rattle.std.specs.List.{AllByRecursion, range_with_len, sum}
use Rattle.std.specs.declared.num.NonZeroU64.{NonZeroU64}
use Rattle.zarrs_chunk_base.specs.ArraySubset.{Box, IsBox, IsEmptyBox, lasts}
use Rattle.zarrs_chunk_base.specs.Dimension.{Dimension, Holds, array_sizes}
use Rattle.zarrs_chunk_base.specs.Greatest.{greatest}
use Rattle.zarrs_chunk_axes.specs.Along.{Along, IsRegular}
use Rattle.zarrs_chunks.specs.Subsets.{IsCover}
use Rattle.zarrs_chunks.specs.Walks.{chunks_in}
use Rattle.zarrs_chunk_plan.specs.Counts.{product}
use Rattle.zarrs_chunk_plan.specs.Region.{EndWithin}
use Rattle.zarrs_chunk_plan.specs.seen.Sources.{RangeTakes, home, met, met_by, taken, taken_from}
use Rattle.zarrs_chunk_tasks.specs.Counts.{AreNone, greatest_of_128, in_all}
use Rattle.zarrs_chunk_tasks.specs.declared.counts.CountsAlong.{CountsAlong}
use Rattle.zarrs_chunk_tasks.specs.declared.copied.Grouped.{Grouped}
use Rattle.zarrs_chunk_tasks.specs.declared.groups_along.GroupsAlong.{GroupsAlong}
use Rattle.zarrs_chunk_tasks.specs.declared.groups_along.Met.{Met}
use Rattle.zarrs_chunk_tasks.specs.declared.groups_along.Regular.{Regular}
use Rattle.zarrs_chunk_tasks.specs.declared.groups_along.Sums.{Sums}
use Rattle.zarrs_chunk_tasks.specs.seen.Grouped.{all_grouped, grouped}
use Rattle.zarrs_chunk_tasks.specs.seen.Tasks.{AreGroups}

-- ---- what is counted of a range of indices

-- the indices themselves
abbrev pub indices : Dimension → (first size : ℕ) → ℕ
indices d first size = size

-- the elements of the chunks that hold some of them, whole
unfoldable pub whole : Dimension → (first size : ℕ) → ℕ
whole d first size = d.end (home d (first + (size - 1))) - d.start (home d first)

-- such a count, of what a group takes of a range, which begins at `at` in the grouped array and at `first` in another one
abbrev pub of_group : (Dimension → (first size : ℕ) → ℕ) → (d g : Dimension) → (first at size group : ℕ) → ℕ
of_group count d g first at size group = count d (first + (taken_from g at group - at)) (taken g at size group)

-- of neighbouring groups
abbrev pub of_groups : (Dimension → (first size : ℕ) → ℕ) → (d g : Dimension) → (first at size group groups : ℕ) → List ℕ
of_groups count d g first at size group groups = map (of_group count d g first at size) (range_with_len group groups)

-- along each dimension
abbrev pub of_groups_each : (Dimension → (first size : ℕ) → ℕ) → (ds gs : List Dimension) → (first at shape : List ℕ) → List (ℕ → ℕ)
of_groups_each count (d ∷ ds) (g ∷ gs) (f ∷ first) (a ∷ at) (n ∷ shape) = of_group count d g f a n ∷ of_groups_each count ds gs first at shape
of_groups_each _ _ _ _ _ _ = []

-- ---- one dimension

-- what is found of a range
pub record AreMetAlong (d : Dimension) (first size : ℕ) (found : Met) : Type 0 where
  pub chunks : found.chunks ≡ met d first size
  pub elements : found.elements ≡ whole d first size
  pub few : found.chunks ≤ size
  pub small : found.elements ≤ found.chunks * greatest

-- the range isn't empty, and its first and its last index lie in these chunks
pub record AreOver (d : Dimension) (at size first last : ℕ) : Type 0 where
  pub some : 0 < size
  pub fits : at + size ≤ greatest
  pub low : Holds d first at
  pub high : Holds d last (at + (size - 1))

-- The range lies in the array, and each of these groups of k chunks takes some of it.
pub record AreTaking (k at size first last group groups : ℕ) (d : Dimension) : Type 0 where
  pub over : AreOver d at size first last
  pub within : at + size ≤ d.array_size
  pub take : RangeTakes (grouped d k) at size group groups
  pub groups_fit : group + groups ≤ greatest

-- how many indices of the range come before what a group takes, and how many it takes
pub record IsTaken (d : Dimension) (k at size group : ℕ) (range : ℕ × ℕ) : Type 0 where
  pub before : range.0 ≡ taken_from (grouped d k) at group - at
  pub many : range.1 ≡ taken (grouped d k) at size group

-- the sums of what is counted of neighbouring groups, in the range from `first` on of another dimension: they take no index twice
pub record AreSums (k at size group many first : ℕ) (d other : Dimension) (sums : Sums) : Type 0 where
  pub largest : sums.largest ≡ fold max 0 (of_groups indices other (grouped d k) first at size group many)
  pub chunks : sums.chunks ≡ sum (of_groups met other (grouped d k) first at size group many)
  pub elements : sums.elements ≡ sum (of_groups whole other (grouped d k) first at size group many)
  pub few : (last : ℕ) → many ≡ last + 1
      → sums.chunks + taken_from (grouped d k) at group ≤ min ((grouped d k).end (group + last)) (at + size)
  pub small : sums.elements ≤ sums.chunks * greatest

-- what is counted of groups and of those after them, up to the greatest numbers
pub record AreJoined (one other sums : Sums) : Type 0 where
  pub largest : sums.largest ≡ max one.largest other.largest
  pub chunks : sums.chunks ≡ min (one.chunks + other.chunks) greatest
  pub elements : sums.elements ≡ min (one.elements + other.elements) greatest_of_128

-- Both dimensions are regular. A group of k chunks is so long.
pub record AreRegular (k : ℕ) (d other : Dimension) (regular : Regular) : Type 0 where
  pub edge : (b : ℕ) × (0 < b) × IsRegular d b × (regular.long ≡ b * k)
  pub other_edge : IsRegular other (non_zero_u64_get regular.edge)

module _ {K : Type 0} where
  abbrev pub GroupsTake : GroupsAlong K → Dimension → Type 0
  GroupsTake groups =
      AreTaking (non_zero_u64_get groups.each) groups.at groups.size groups.first groups.last groups.group groups.groups

  abbrev pub GroupsSum : GroupsAlong K → (many first : ℕ) → (d other : Dimension) → Sums → Type 0
  GroupsSum groups many = AreSums (non_zero_u64_get groups.each) groups.at groups.size groups.group many

  -- of some of the groups, a number of groups after the first
  abbrev pub PartSum : GroupsAlong K → (before many first : ℕ) → (d other : Dimension) → Sums → Type 0
  PartSum groups before many = AreSums (non_zero_u64_get groups.each) groups.at groups.size (groups.group + before) many

-- ---- all dimensions

-- what is counted of a group along all dimensions
abbrev pub of_each_group : (Dimension → (first size : ℕ) → ℕ) → (ds gs : List Dimension) → (first : List ℕ) → (elements groups : Box) → List ℕ
of_each_group count ds gs first elements groups =
    map (λ group. product (met_by (of_groups_each count ds gs first elements.start elements.shape) group)) (chunks_in groups)

-- the elements lie from `first` on in one array and from `at` on in another
pub record AreCopied (source target : List Dimension) (elements : Box) (first at : List ℕ) : Type 0 where
  pub from : IsBox (record { start = first; shape = elements.shape })
  pub into : IsBox (record { start = at; shape = elements.shape })
  pub in_source : EndWithin first elements.shape (array_sizes source)
  pub in_target : EndWithin at elements.shape (array_sizes target)

-- there is a number for each dimension
pub record AreLong (source target ds : List Dimension) (each : List NonZeroU64) (elements groups : Box) (first at : List ℕ) : Type 0 where
  pub source_long : length source ≡ length ds
  pub target_long : length target ≡ length ds
  pub each_long : length each ≡ length ds
  pub first_long : length first ≡ length ds
  pub at_long : length at ≡ length ds
  pub start_long : length elements.start ≡ length ds
  pub shape_long : length elements.shape ≡ length ds
  pub group_long : length groups.start ≡ length ds
  pub groups_long : length groups.shape ≡ length ds

module _ {K : Type 0} where
  -- these are the groups of a grid's chunks that hold some of a box of elements, of which there is one
  pub record IsGrouped (dimensions : K → List Dimension) (grid : K) (each : List NonZeroU64) (elements : Box) (grouped : Grouped K) : Type 0 where
    pub same_grid : grouped.grid.now ≡ grid
    pub same_each : grouped.each.now ≡ each
    pub same_elements : grouped.elements.now ≡ elements
    pub some : ¬ IsEmptyBox elements
    pub is_cover : IsCover (dimensions grid) elements grouped.cover
    pub last : grouped.last.items ≡ lasts grouped.cover.start grouped.cover.shape
    pub is_box : IsBox grouped.groups
    pub named : AreGroups (dimensions grid) (map non_zero_u64_get each) elements grouped.groups

  -- there is a number for the dimension
  pub record AreLists (dimension : ℕ) (grouped : Grouped K) : Type 0 where
    pub each : dimension < length grouped.each.now
    pub start : dimension < length grouped.elements.now.start
    pub shape : dimension < length grouped.elements.now.shape
    pub cover : dimension < length grouped.cover.start
    pub last : dimension < length grouped.last.items
    pub group : dimension < length grouped.groups.start
    pub groups : dimension < length grouped.groups.shape

  -- these are the groups that hold some of the elements, and along each dimension each of them takes some
  pub record AreGrouped (dimensions : K → List Dimension) (source target : List Dimension) (first at : List ℕ) (grouped : Grouped K) : Type 0 where
    pub some : ¬ IsEmptyBox grouped.elements.now
    pub is_box : IsBox grouped.groups
    pub named : AreGroups (dimensions grouped.grid.now) (map non_zero_u64_get grouped.each.now) grouped.elements.now grouped.groups
    pub long : AreLong source target (dimensions grouped.grid.now) grouped.each.now grouped.elements.now grouped.groups first at
    pub cover_long : length grouped.cover.start ≡ length (dimensions grouped.grid.now)
    pub last_long : length grouped.last.items ≡ length (dimensions grouped.grid.now)
    pub in_source : (k : ℕ) → k < length (dimensions grouped.grid.now)
        → Along (λ s. slice_index_or first k 0 + slice_index_or grouped.elements.now.shape k 0 ≤ s.array_size) source k
    pub in_target : (k : ℕ) → k < length (dimensions grouped.grid.now)
        → Along (λ t. slice_index_or at k 0 + slice_index_or grouped.elements.now.shape k 0 ≤ t.array_size) target k
    pub first_fits : (k : ℕ) → k < length (dimensions grouped.grid.now)
        → slice_index_or first k 0 + slice_index_or grouped.elements.now.shape k 0 ≤ greatest
    pub at_fits : (k : ℕ) → k < length (dimensions grouped.grid.now)
        → slice_index_or at k 0 + slice_index_or grouped.elements.now.shape k 0 ≤ greatest
    pub take : (any : NonZeroU64) (k : ℕ) → k < length (dimensions grouped.grid.now)
        → Along (AreTaking (non_zero_u64_get (slice_index_or grouped.each.now k any)) (slice_index_or grouped.elements.now.start k 0)
        (slice_index_or grouped.elements.now.shape k 0) (slice_index_or grouped.cover.start k 0) (slice_index_or grouped.last.items k 0)
        (slice_index_or grouped.groups.start k 0) (slice_index_or grouped.groups.shape k 0)) (dimensions grouped.grid.now) k

-- The counts of the groups that hold some of a box of elements, which lies from `first` on in the source's array and from `at` on in the target's.
pub record AreGroupCounts (source target ds : List Dimension) (each : List ℕ) (elements : Box) (first at : List ℕ) (along : List CountsAlong) : Type 0 where
  pub long : length along ≡ length ds
  pub of_none : IsEmptyBox elements → AllByRecursion AreNone along
  pub groups : Box
  pub is_box : IsBox groups
  pub are_groups : AreGroups ds each elements groups
  pub tasks : in_all (λ counts. counts.tasks) along ≡ length (chunks_in groups)
  pub largest_task : in_all (λ counts. counts.largest_task) along ≡ fold max 0 (of_each_group indices source (all_grouped ds each) first elements groups)
  pub chunks_read : in_all (λ counts. counts.chunks_read) along ≡ sum (of_each_group met source (all_grouped ds each) first elements groups)
  pub elements_decoded : in_all (λ counts. counts.elements_decoded) along ≡ sum (of_each_group whole source (all_grouped ds each) first elements groups)
  pub chunks_written : in_all (λ counts. counts.chunks_written) along ≡ sum (of_each_group met target (all_grouped ds each) at elements groups)
