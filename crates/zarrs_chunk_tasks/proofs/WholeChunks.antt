-- A chunk that is whole in one task is in no other one; and the tasks of the copy the other way round.
use Rattle.std.proofs.Common.{ℕ, Contains, List, [], ◌∷◌, get_or, map, refl, subst, sym, ⊎_elim, arith}
use Rattle.std.proofs.lemmas.List.Elements.{Contains-get_or}
use Rattle.std.specs.List.{AllByRecursion, AllPairs, AllZip}
use Rattle.zarrs_chunk_base.specs.ArraySubset.{Box, IsInside}
use Rattle.zarrs_chunk_base.specs.Dimension.{Dimension, IsChain, array_sizes}
use Rattle.zarrs_chunk_axes.specs.InBounds.{AreBelow}
use Rattle.zarrs_chunks.specs.Walks.{counted_from}
use Rattle.zarrs_chunks.proofs.ChunksInBoxes.{offset_of}
use Rattle.zarrs_chunk_plan.specs.Region.{LiesIn}
use Rattle.zarrs_chunk_plan.proofs.MovedBoxes.{within_below}
use Rattle.zarrs_chunk_tasks.specs.Tasks.{AreTasks, AreTasksBy, AreTheCopy, HasAllAndSome, HasTasks, IsTask, Moves, exchanged}
use Rattle.zarrs_chunk_tasks.specs.declared.order.Order.{Order}
use Rattle.zarrs_chunk_tasks.specs.declared.order.Order.TheVariants.{Source, Target}
use Rattle.zarrs_chunk_tasks.specs.declared.task.Task.{Task}
use Rattle.zarrs_chunk_tasks.proofs.TaskLaws.{copy_by_source, copy_by_target, lies_by_source, lies_by_target}

module _ (source target : List Dimension) (source_chains : AllByRecursion IsChain source) (target_chains : AllByRecursion IsChain target) (region : Box)
    (at each : List ℕ) (has : HasTasks (array_sizes source) (array_sizes target) region at each) (tasks : List Task) where
  the_copy : (order : Order) → AreTasksBy order source target each region at tasks → AreTheCopy region at tasks
  the_copy Target = copy_by_target source target region at each has tasks target_chains
  the_copy Source = copy_by_source source target region at each has tasks source_chains

  lie : (order : Order) → AreTasksBy order source target each region at tasks → (task : Task) → Contains tasks task
      → LiesIn task.source (array_sizes source) × LiesIn task.target (array_sizes target)
  lie Target = lies_by_target source target region at each has tasks
  lie Source = lies_by_source source target region at each has tasks

  module _ (order : Order) (are : AreTasksBy order source target each region at tasks) where
    copy : AreTheCopy region at tasks
    copy = the_copy order are

    -- an element of a task's box goes to some place, or comes from one
    goes : (task : Task) (index : List ℕ) → IsInside task.source index → (to : List ℕ) × Moves task index to
    goes task index inside =
        let (behind, below, is) = offset_of task.source.start task.source.shape index inside in
        (counted_from task.target.start behind, record { behind = behind; below = below; from = sym is; into = refl })

    comes : (task : Task) → Contains tasks task → (to : List ℕ) → IsInside task.target to → (index : List ℕ) × Moves task index to
    comes task among to inside =
        let (behind, below, is) = offset_of task.target.start task.target.shape to inside in (
          counted_from task.source.start behind,
          record { behind = behind; below = subst (λ shape. AreBelow shape behind) (sym (copy.one_shape task among)) below; from = refl; into = sym is },
        )

    pub written_apart : AllPairs (λ one other. (chunk : List ℕ) → HasAllAndSome target one.target other.target chunk → ⊥) tasks
    written_apart = λ i j d before within chunk.
        let one = get_or tasks i d in
        let other = get_or tasks j d in
        let among = Contains-get_or tasks i d (omega arith) in
        let also = Contains-get_or tasks j d within in
        let twice : (to : List ℕ) → IsInside one.target to → IsInside other.target to → ⊥ =
        λ to inside within_other.
        let (from, moves) = comes one among to inside in
        let (next, moved) = comes other also to within_other in
        copy.written_once i j d before within to from next moves moved
        in
        ⊎_elim
        (λ (all, (index, holds, inside)).
        twice index (all index holds (within_below other.target.start other.target.shape (array_sizes target) index (lie order are other also).1 inside)) inside)
        (λ ((index, holds, inside), all).
        twice index inside (all index holds (within_below one.target.start one.target.shape (array_sizes target) index (lie order are one among).1 inside)))

    pub read_apart : AllPairs (λ one other. (chunk : List ℕ) → HasAllAndSome source one.source other.source chunk → ⊥) tasks
    read_apart = λ i j d before within chunk.
        let one = get_or tasks i d in
        let other = get_or tasks j d in
        let among = Contains-get_or tasks i d (omega arith) in
        let also = Contains-get_or tasks j d within in
        let twice : (index : List ℕ) → IsInside one.source index → IsInside other.source index → ⊥ =
        λ index inside within_other.
        let (to, moves) = goes one index inside in
        let (next, moved) = goes other index within_other in
        copy.read_once i j d before within index to next moves moved
        in
        ⊎_elim
        (λ (all, (index, holds, inside)).
        twice index (all index holds (within_below other.source.start other.source.shape (array_sizes source) index (lie order are other also).0 inside)) inside)
        (λ ((index, holds, inside), all).
        twice index inside (all index holds (within_below one.source.start one.source.shape (array_sizes source) index (lie order are one among).0 inside)))

-- ---- the other way round

one_exchanged : (ds : List Dimension) (each : List ℕ) (elements : Box) (first at : List ℕ) (groups : List (List ℕ)) (tasks : List Task)
    → AllZip (IsTask ds each elements first at) groups tasks → AllZip (IsTask ds each elements at first) groups (map exchanged tasks)
one_exchanged ds each elements first at [] [] are = tt
one_exchanged ds each elements first at (group ∷ groups) (task ∷ tasks) are =
    let is = are.0 in (
      record { numbers = is.numbers; behind = is.behind; is_box = is.is_box; buffer = is.buffer; source = is.target; target = is.source },
      one_exchanged ds each elements first at groups tasks are.1,
    )
one_exchanged ds each elements first at [] (_ ∷ _) are = absurd are
one_exchanged ds each elements first at (_ ∷ _) [] are = absurd are

pub all_exchanged : (ds : List Dimension) (each : List ℕ) (elements : Box) (first at : List ℕ) (tasks : List Task) → AreTasks ds each elements first at tasks
    → AreTasks ds each elements at first (map exchanged tasks)
all_exchanged ds each elements first at tasks are =
    record { groups = are.groups; is_box = are.is_box; named = are.named; are_tasks = one_exchanged ds each elements first at _ tasks are.are_tasks }
