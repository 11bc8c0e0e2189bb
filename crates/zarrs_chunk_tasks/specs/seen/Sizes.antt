-- How many chunks a group joins along one dimension, and what groups of that size cost.
use Rattle.std.specs.Prelude.{◌≡◌, Bool, IsTrue, ℕ, ◌+◌, ◌-◌, ◌/◌, ◌<◌, ◌≤◌, ◌⊎◌, List, [], ◌∷◌, ◌++◌, fold, length, max}
use Rattle.std.specs.Int.NonZero.{non_zero_u64_get}
use Rattle.std.specs.List.{AllByRecursion, Contains, sum}
use Rattle.zarrs_chunk_base.specs.Dimension.{Dimension, IsChain}
use Rattle.zarrs_chunk_plan.specs.seen.Sources.{met}
use Rattle.zarrs_chunk_tasks.specs.declared.counts.CountsAlong.{CountsAlong}
use Rattle.zarrs_chunk_tasks.specs.declared.groups_along.GroupsAlong.{GroupsAlong}
use Rattle.zarrs_chunk_tasks.specs.declared.sizes.Size.{Size}
use Rattle.zarrs_chunk_tasks.specs.seen.Counts.{AreOver, indices, of_groups, whole}
use Rattle.zarrs_chunk_tasks.specs.seen.Grouped.{grouped}

abbrev pub each_of : Size → ℕ
each_of s = non_zero_u64_get s.each

-- One dimension of a copy. `size` indices go from `first` on of the source to `at` on of the target. The target's chunks `low` and `high` hold the first
-- one and the last one.
pub record Side : Type 0 where
  pub source : Dimension
  pub target : Dimension
  pub first : ℕ
  pub at : ℕ
  pub size : ℕ
  pub low : ℕ
  pub high : ℕ

-- it is one: the chunks hold what they say, and the numbers fit
pub record IsSide (side : Side) : Type 0 where
  pub chain : IsChain side.target
  pub over : AreOver side.target side.at side.size side.low side.high
  pub within : side.at + side.size ≤ side.target.array_size

-- the dimensions of a copy
abbrev pub sides : (source target : List Dimension) → (first at shape low high : List ℕ) → List Side
sides (s ∷ source) (t ∷ target) (f ∷ first) (a ∷ at) (n ∷ shape) (l ∷ low) (h ∷ high) =
    record { source = s; target = t; first = f; at = a; size = n; low = l; high = h } ∷ sides source target first at shape low high
sides _ _ _ _ _ _ _ = []

-- how many groups of k chunks hold some of the indices
abbrev pub groups_met : Side → (k : ℕ) → ℕ
groups_met side k = side.high / k - side.low / k + 1

-- what is counted of each of these groups
abbrev pub by_groups : (Dimension → (first size : ℕ) → ℕ) → Side → (k : ℕ) → List ℕ
by_groups count side k =
    of_groups count side.source (grouped side.target k) side.first side.at side.size (side.low / k) (groups_met side k)

-- the longest of them, the chunks of the source that they meet, and the elements of these chunks
abbrev pub largest_by : Side → (k : ℕ) → ℕ
largest_by side k = fold max 0 (by_groups indices side k)

abbrev pub chunks_by : Side → (k : ℕ) → ℕ
chunks_by side k = sum (by_groups met side k)

abbrev pub elements_by : Side → (k : ℕ) → ℕ
elements_by side k = sum (by_groups whole side k)

-- what is counted of the groups of k chunks
abbrev pub counts_by : Side → (k : ℕ) → CountsAlong
counts_by side k = record {
  tasks = groups_met side k;
  largest_task = largest_by side k;
  chunks_read = chunks_by side k;
  elements_decoded = elements_by side k;
  chunks_written = sum (of_groups met side.target (grouped side.target k) side.at side.at side.size (side.low / k) (groups_met side k));
}

-- along each dimension
abbrev pub all_counts : List Side → (each : List ℕ) → List CountsAlong
all_counts (side ∷ rest) (k ∷ each) = counts_by side k ∷ all_counts rest each
all_counts _ _ = []

-- the size has the numbers of its groups
pub record IsSize (side : Side) (s : Size) : Type 0 where
  pub some : 0 < s.largest
  pub largest : s.largest ≡ largest_by side (each_of s)
  pub chunks : s.chunks ≡ chunks_by side (each_of s)
  pub elements : s.elements ≡ elements_by side (each_of s)

-- groups of this size are no longer than groups of k chunks, and read and decode no more
pub record Beats (side : Side) (k : ℕ) (s : Size) : Type 0 where
  pub largest : s.largest ≤ largest_by side k
  pub chunks : s.chunks ≤ chunks_by side k
  pub elements : s.elements ≤ elements_by side k

-- one of the sizes does
abbrev pub IsBeaten : Side → List Size → (k : ℕ) → Type 0
IsBeaten side sizes k = (s : Size) × Contains sizes s × Beats side k s

-- the first size is one chunk, which makes the shortest groups
pub record StartsWithLeast (side : Side) (sizes : List Size) : Type 0 where
  pub first_size : Size
  pub others : List Size
  pub are : sizes ≡ first_size ∷ others
  pub one : each_of first_size ≡ 1
  pub least : (k : ℕ) → 0 < k → first_size.largest ≤ largest_by side k

-- the one size has groups that are no longer, and reads and decodes no more
pub record IsNoWorse (one other : Size) : Type 0 where
  pub largest : one.largest ≤ other.largest
  pub chunks : one.chunks ≤ other.chunks
  pub elements : one.elements ≤ other.elements

-- a size is put behind those that are kept, unless one of them is no worse
abbrev pub Keeps : (before : List Size) → Size → (after : List Size) → Type 0
Keeps before size after = (after ≡ before ++ size ∷ []) ⊎ ((after ≡ before) × ((one : Size) × Contains before one × IsNoWorse one size))

-- some sizes; the first one has the shortest groups
pub record AreTried (side : Side) (sizes : List Size) : Type 0 where
  pub are : AllByRecursion (IsSize side) sizes
  pub least : StartsWithLeast side sizes

-- they are tried, and if they are all, they beat groups of each number of chunks
pub record AreSizes (are_all : Bool) (side : Side) (sizes : List Size) : Type 0 where
  pub tried : AreTried side sizes
  pub all : IsTrue are_all → (k : ℕ) → 0 < k → IsBeaten side sizes k

-- sizes up to a number of chunks
pub record AreSizesTo (side : Side) (most : ℕ) (sizes : List Size) : Type 0 where
  pub are : AllByRecursion (IsSize side) sizes
  pub least : 0 < most → StartsWithLeast side sizes
  pub few : length sizes ≤ most
  pub all : (k : ℕ) → 0 < k → k ≤ most → IsBeaten side sizes k

module _ {K : Type 0} where
  -- the range of some groups, as a dimension of a copy
  abbrev pub side_of : GroupsAlong K → (first : ℕ) → (target source : Dimension) → Side
  side_of groups first target source = record {
    source = source;
    target = target;
    first = first;
    at = groups.at;
    size = groups.size;
    low = groups.first;
    high = groups.last;
  }
