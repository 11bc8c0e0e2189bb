-- What is known of a copy before its tasks are: how few chunks of the source they can read, and how long these are.
use Rattle.std.specs.Prelude.{◌≡◌, ℕ, ◌+◌, ◌*◌, ◌<◌, ◌≤◌, List, [], ◌∷◌, map, max}
use Rattle.zarrs_chunk_base.specs.Dimension.{Dimension, Holds}
use Rattle.zarrs_chunk_plan.specs.Counts.{product}
use Rattle.zarrs_chunk_plan.specs.seen.Sources.{met}
use Rattle.zarrs_chunk_tasks.specs.Counts.{greatest_of_128}
use Rattle.zarrs_chunk_tasks.specs.Limits.{HasAtMost, HasPart}
use Rattle.zarrs_chunk_tasks.specs.declared.least.LimitsAlong.{LimitsAlong}
use Rattle.zarrs_chunk_tasks.specs.declared.least.Limits.{Limits}

-- each of `many` chunks from `first` on has `edge` elements or more, whole
abbrev pub AreNoShorter : (first many edge : ℕ) → Dimension → Type 0
AreNoShorter first many edge d = (c : ℕ) → first ≤ c → c < first + many → d.start c + edge ≤ d.end c

-- each chunk that has some of a range has `edge` elements or more, whole
abbrev pub HasAtLeast : (edge : ℕ) → Dimension → (start size : ℕ) → Type 0
HasAtLeast edge d start size = (c i : ℕ) → Holds d c i → start ≤ i → i < start + size → d.start c + edge ≤ d.end c

-- One dimension of a copy. `size` indices go from `first` on of the source to `at` on of the target.
pub record AreLimitsAlong (source target : Dimension) (first at size : ℕ) (along : LimitsAlong) : Type 0 where
  pub size_is : along.size ≡ size
  pub some : 0 < along.longest
  pub longest : HasAtMost along.longest source first size
  pub chunks : along.chunks ≡ met source first size
  pub shortest : HasAtLeast along.shortest source first size
  pub part : ℕ
  pub has_part : HasPart part target at size
  pub larger : along.larger ≡ max along.longest part

-- the dimensions of a copy
abbrev pub AreLimits : (source target : List Dimension) → (first at shape : List ℕ) → List LimitsAlong → Type 0
AreLimits [] [] [] [] [] [] = Unit {0}
AreLimits (s ∷ source) (t ∷ target) (f ∷ first) (a ∷ at) (n ∷ shape) (along ∷ all) = AreLimitsAlong s t f a n along × AreLimits source target first at shape all
AreLimits _ _ _ _ _ _ = ⊥

-- a limit of all dimensions together
abbrev pub of_all : (LimitsAlong → ℕ) → List LimitsAlong → ℕ
of_all limit all = product (map limit all)

-- The limits of all dimensions. They may be less than that, except for the product of what a chunk has at most: that is greater, or the greatest number.
pub record AreLimitsOf (all : List LimitsAlong) (limits : Limits) : Type 0 where
  pub elements : limits.elements ≤ of_all (λ along. along.size) all
  pub chunks : limits.chunks ≤ of_all (λ along. along.chunks) all
  pub shortest : limits.shortest ≤ of_all (λ along. along.shortest) all
  pub larger : limits.larger ≤ of_all (λ along. along.larger) all
  pub longest : limits.longest < greatest_of_128 → of_all (λ along. along.longest) all ≤ limits.longest
  pub some : 0 < limits.longest

-- the reads are no fewer than the limits allow, if the longest buffer has no more than `room` elements
pub record AreEnough (all : List LimitsAlong) (room reads : ℕ) : Type 0 where
  pub chunks : of_all (λ along. along.chunks) all ≤ reads
  pub by_room : of_all (λ along. along.size) all * of_all (λ along. along.larger) all ≤ reads * of_all (λ along. along.longest) all * room

-- what reads cost at least: each element that is copied is decoded, and each read decodes the elements of a chunk
abbrev pub cost_of_reads : List LimitsAlong → (read_elements reads : ℕ) → ℕ
cost_of_reads all read_elements reads =
    reads * read_elements + max (of_all (λ along. along.size) all) (reads * of_all (λ along. along.shortest) all)

-- the limits of the dimensions of a copy
abbrev pub HasLimits : (source target : List Dimension) → (first at shape : List ℕ) → Limits → Type 0
HasLimits source target first at shape limits = (all : List LimitsAlong) × AreLimits source target first at shape all × AreLimitsOf all limits
