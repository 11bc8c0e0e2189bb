-- What a group holds of a box of elements, a dimension after another.
use Rattle.std.proofs.Common.{◌≡◌, ℕ, zero, suc, ◌+◌, ◌-◌, ◌<◌, List, [], ◌∷◌, Contains, length, refl, ap, ap₂, slice_index_or, subst, sym, arith}
use Rattle.std.specs.Int.NonZero.{non_zero_u64_get}
use Rattle.std.specs.declared.num.NonZeroU64.{NonZeroU64}
use Rattle.zarrs_chunk_base.specs.ArraySubset.{Box, IsBox, ends, lasts}
use Rattle.zarrs_chunk_base.specs.Dimension.{Dimension, IsChain}
use Rattle.zarrs_chunk_base.specs.Greatest.{AllFit}
use Rattle.std.specs.List.{AllByRecursion}
use Rattle.zarrs_chunk_axes.specs.Along.{Along}
use Rattle.zarrs_chunks.proofs.Covers.{head_some, tail_some}
use Rattle.zarrs_chunks.specs.Subsets.{IsCover}
use Rattle.zarrs_chunks.specs.Walks.{counted_from}
use Rattle.zarrs_chunk_plan.specs.Region.{shifted}
use Rattle.zarrs_chunk_plan.specs.seen.Sources.{TakesSome, taken_from, taken_sizes, taken_starts}
use Rattle.zarrs_chunk_plan.proofs.Plans.{not_empty_if_inside}
use Rattle.zarrs_chunk_plan.proofs.TakenBoxes.{AllTakeSome, meets_take}
use Rattle.zarrs_chunk_tasks.specs.Groups.{HoldsSomeOf, IsBuffer}
use Rattle.zarrs_chunk_tasks.specs.seen.Counts.{AreOver, IsTaken}
use Rattle.zarrs_chunk_tasks.specs.seen.Grouped.{grouped}
use Rattle.zarrs_chunk_tasks.proofs.GroupBoxes.{AreOver as AllOver, AsMany, as_many_each, fewer, groups, meets_as_chunk, numbers, over as over_cover, taken_is_buffer}

-- along each dimension how many indices of a range come before what a group takes
abbrev pub befores : List Dimension → (at group : List ℕ) → List ℕ
befores (g ∷ gs) (a ∷ at) (t ∷ group) = (taken_from g a t - a) ∷ befores gs at group
befores _ _ _ = []

-- what a group of so many chunks takes along the dimension of a number
pub record AtNumber (ds : List Dimension) (each : List NonZeroU64) (start shape first last group : List ℕ) (size k : ℕ) : Type 0 where
  pub over : Along (λ d. AreOver d (slice_index_or start k 0) (slice_index_or shape k 0) (slice_index_or first k 0) (slice_index_or last k 0)) ds k
  pub takes : Along (λ d. TakesSome (grouped d size) (slice_index_or start k 0) (slice_index_or shape k 0) (slice_index_or group k 0)) ds k
  pub is : (range : ℕ × ℕ)
      → Along (λ d. IsTaken d size (slice_index_or start k 0) (slice_index_or shape k 0) (slice_index_or group k 0) range) ds k
      → (range.0 ≡ slice_index_or (befores (groups ds each) start group) k 0) × (range.1 ≡ slice_index_or (taken_sizes (groups ds each) start shape group) k 0)

pub at_number : (ds : List Dimension) (each : List NonZeroU64) (start shape first last group : List ℕ) (any : NonZeroU64) (k : ℕ)
    → AsMany ds each start shape first last → (¬ Contains shape 0) → AllFit (ends start shape) → AllOver ds start shape first last
    → AllTakeSome (groups ds each) start shape group → k < length ds
    → AtNumber ds each start shape first last group (non_zero_u64_get (slice_index_or each k any)) k
at_number (d ∷ ds) (k ∷ each) (a ∷ start) (n ∷ shape) (f ∷ first) (l ∷ last) (t ∷ group) any zero long some fit over takes within = record {
  over = record { some = head_some n shape some; fits = fit.0; low = over.0.0; high = over.1.0 };
  takes = takes.0;
  is = λ range taken. (taken.before, taken.many);
}
at_number (d ∷ ds) (k ∷ each) (a ∷ start) (n ∷ shape) (f ∷ first) (l ∷ last) (t ∷ group) any (suc j) long some fit over takes within =
    let rest = at_number ds each start shape first last group any j (fewer long) (tail_some n shape some) fit.1 (over.0.1, over.1.1) takes.1 (omega arith) in
    record { over = rest.over; takes = rest.takes; is = rest.is }
at_number (d ∷ ds) (k ∷ each) (a ∷ start) (n ∷ shape) (f ∷ first) (l ∷ last) [] any j long some fit over takes within = absurd takes
at_number _ _ _ _ _ _ _ any k long some fit over takes within =
    absurd (omega (arith, long.each_many, long.start_many, long.shape_many, long.first_many, long.last_many))

-- each of the two lists has a number for each dimension
pub befores_long : (gs : List Dimension) (at shape group : List ℕ) → AllTakeSome gs at shape group → length (befores gs at group) ≡ length group
befores_long [] [] [] [] takes = refl
befores_long (g ∷ gs) (a ∷ at) (n ∷ shape) (t ∷ group) takes = ap suc (befores_long gs at shape group takes.1)
befores_long _ _ _ _ takes = absurd takes

pub sizes_long : (gs : List Dimension) (at shape group : List ℕ) → AllTakeSome gs at shape group → length (taken_sizes gs at shape group) ≡ length group
sizes_long [] [] [] [] takes = refl
sizes_long (g ∷ gs) (a ∷ at) (n ∷ shape) (t ∷ group) takes = ap suc (sizes_long gs at shape group takes.1)
sizes_long _ _ _ _ takes = absurd takes

-- from the start of the box so many indices on is where the group begins
befores_reach : (gs : List Dimension) (at shape group : List ℕ) → AllTakeSome gs at shape group → counted_from at (befores gs at group) ≡ taken_starts gs at group
befores_reach [] [] [] [] takes = refl
befores_reach (g ∷ gs) (a ∷ at) (n ∷ shape) (t ∷ group) takes =
    let here : a + (taken_from g a t - a) ≡ taken_from g a t = omega arith in ap₂ (λ m ms. m ∷ ms) here (befores_reach gs at shape group takes.1)
befores_reach _ _ _ _ takes = absurd takes

module _ (ds : List Dimension) (each : List NonZeroU64) (elements cover : Box) (group : List ℕ) (chains : AllByRecursion IsChain ds)
    (many : length each ≡ length ds) (is_box : IsBox elements) (is : IsCover ds elements cover)
    (holds : HoldsSomeOf ds (numbers each) elements group) where
  -- the group takes some of the box along each dimension
  pub takes_each : AllTakeSome (groups ds each) elements.start elements.shape group
  takes_each = meets_take (groups ds each) elements group ((meets_as_chunk ds each chains many elements group).0 holds)

  pub along : (size : NonZeroU64) (k : ℕ) → size ≡ slice_index_or each k size → k < length ds
      → AtNumber ds each elements.start elements.shape cover.start (lasts cover.start cover.shape) group (non_zero_u64_get size) k
  along size k is_size within =
      let here = at_number ds each elements.start elements.shape cover.start (lasts cover.start cover.shape) group size k
      (as_many_each ds each chains many elements cover is_box is) (not_empty_if_inside elements.start elements.shape holds.0 holds.1) is_box.fits
      (over_cover ds each chains many elements cover is_box is) takes_each within
      in
      subst (λ n. AtNumber ds each elements.start elements.shape cover.start (lasts cover.start cover.shape) group (non_zero_u64_get n) k) (sym is_size) here

  -- what it takes is the buffer
  pub is_buffer : IsBuffer ds (numbers each) elements group
      (shifted elements.start (record { start = befores (groups ds each) elements.start group; shape = taken_sizes (groups ds each) elements.start elements.shape group }))
  is_buffer =
      rw (befores_reach (groups ds each) elements.start elements.shape group takes_each)
      (taken_is_buffer ds each chains many elements group is_box ((meets_as_chunk ds each chains many elements group).0 holds))

-- the last number of a range
pub last_at : (start shape : List ℕ) (k : ℕ) → k < length start → k < length shape
    → slice_index_or (lasts start shape) k 0 ≡ slice_index_or start k 0 + (slice_index_or shape k 0 - 1)
last_at (a ∷ start) (n ∷ shape) zero one other = refl
last_at (a ∷ start) (n ∷ shape) (suc k) one other = last_at start shape k (omega arith) (omega arith)
last_at _ _ k one other = absurd (omega arith)
