-- There are tasks of each copy.
use Rattle.std.proofs.Common.{◌≡◌, ◌∙◌, ℕ, List, [], ◌∷◌, length, ap₂, refl, subst, sym, arith}
use Rattle.std.proofs.lemmas.List.{length-map}
use Rattle.std.specs.Int.NonZero.{non_zero_u64_get}
use Rattle.std.specs.List.{AllByRecursion}
use Rattle.std.specs.declared.num.NonZeroU64.{NonZeroU64}
use Rattle.zarrs_chunk_base.specs.ArraySubset.{Box, IsBox, IsInside}
use Rattle.zarrs_chunk_base.specs.Dimension.{Dimension, IsChain, array_sizes}
use Rattle.zarrs_chunk_axes.specs.InBounds.{AreBelow}
use Rattle.zarrs_chunks.specs.Walks.{chunks_in}
use Rattle.zarrs_chunk_parts.specs.Plan.{Meets}
use Rattle.zarrs_chunk_plan.specs.Region.{LiesIn, shifted}
use Rattle.zarrs_chunk_plan.proofs.MovedBoxes.{within_below}
use Rattle.zarrs_chunk_plan.proofs.Plans.{meet_each}
use Rattle.zarrs_chunk_plan.proofs.SomePlan.{array_homes, covers_all, each_has}
use Rattle.zarrs_chunk_tasks.specs.Tasks.{AreTasks, IsTask}
use Rattle.zarrs_chunk_tasks.specs.seen.Grouped.{all_grouped}
use Rattle.zarrs_chunk_tasks.specs.declared.task.Task.{Task}
use Rattle.zarrs_chunk_tasks.proofs.GroupBoxes.{are_chains, groups, meets_as_chunk, numbers, shared_is_buffer, shares}

-- grouped chunks are of the same array
pub same_sizes : (ds : List Dimension) (each : List ℕ) → length each ≡ length ds → array_sizes (all_grouped ds each) ≡ array_sizes ds
same_sizes [] [] many = refl
same_sizes (d ∷ ds) (k ∷ each) many = ap₂ (λ n ns. n ∷ ns) refl (same_sizes ds each (omega arith))
same_sizes _ _ many = absurd (omega arith)

module _ (ds : List Dimension) (each : List NonZeroU64) (elements : Box) (first at : List ℕ) (chains : AllByRecursion IsChain ds) (is_box : IsBox elements)
    (lies : LiesIn elements (array_sizes ds)) (many : length each ≡ length ds) where
  abbrev Is : List ℕ → Task → Type 0
  Is = IsTask ds (numbers each) elements first at

  one_task : (group : List ℕ) → Meets (groups ds each) elements group → (task : Task) × Is group task
  one_task group meets =
      let (in_group, behind, shared) = shares (groups ds each) elements group is_box meets in (
        record { group = record { items = group; capacity = 0 }; source = shifted first behind; target = shifted at behind },
        record {
          numbers = refl;
          behind = behind;
          is_box = shared.from_subset.is_box;
          buffer = shared_is_buffer ds each chains many elements group in_group behind shared;
          source = refl;
          target = refl;
        },
      )

  pub has_tasks : (tasks : List Task) × AreTasks ds (numbers each) elements first at tasks
  has_tasks =
      let all = are_chains ds each chains many in
      let (box, covers) = covers_all (groups ds each) all elements is_box (array_homes (groups ds each) all elements below) in
      let (tasks, are) = each_has (Meets (groups ds each) elements) Is one_task (chunks_in box) (meet_each covers) in (
        tasks,
        record {
          groups = box;
          is_box = covers.is_box;
          named = λ group.
              let holds = meets_as_chunk ds each chains many elements group in
              let named = covers.named group in
              (λ within. holds.1 (named.0 within), λ has. named.1 (holds.0 has));
          are_tasks = are;
        },
      ) where
        below : (index : List ℕ) → IsInside elements index → AreBelow (array_sizes (groups ds each)) index
        below index inside =
            subst (λ sizes. AreBelow sizes index) (sym (same_sizes ds (numbers each) (length-map each non_zero_u64_get ∙ many)))
            (within_below elements.start elements.shape (array_sizes ds) index lies inside)
