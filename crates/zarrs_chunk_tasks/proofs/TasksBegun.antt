-- What a walk over tasks has given, and what it would still have given, are what it had to give; and what a share of it gives is a share of that.
use Rattle.std.proofs.Common.{◌≡◌, ◌∙◌, ℕ, List, [], ◌∷◌, ◌++◌, Some, None, Ok, append-nil, ap, length, map, refl, subst, sym}
use Rattle.std.specs.Int.NonZero.{non_zero_u64_get}
use Rattle.std.specs.List.{AllByRecursion, AllZip}
use Rattle.zarrs_chunk_base.specs.Dimension.{Dimension}
use Rattle.zarrs_chunk_plan.specs.Shares.{share_of}
use Rattle.zarrs_chunk_plan.specs.declared.shares.share.Share.{Share}
use Rattle.zarrs_chunk_plan.specs.declared.stored_array.StoredArray.{StoredArray}
use Rattle.zarrs_chunk_plan.proofs.ShareLists.{all_of_share, both_zipped, of_all}
use Rattle.zarrs_chunk_plan.proofs.SomePlan.{each_has}
use Rattle.zarrs_chunk_plan.proofs.Walked.{one_came}
use Rattle.zarrs_chunk_tasks.specs.Tasks.{IsTask, TaskPlan}
use Rattle.zarrs_chunk_tasks.specs.declared.task.Task.{Task}
use Rattle.zarrs_chunk_tasks.specs.declared.walk.Tasks.{Tasks}
use Rattle.zarrs_chunk_tasks.specs.seen.PlannedTasks.{HasPartsOf, HavePlans, IsPlanOf, PlansToCome}
use Rattle.zarrs_chunk_tasks.specs.seen.Tasks.{CanGive, GivesTask, IsAboutTasks, groups_to_come}

-- what holds of two elements of two lists holds in other words
pub zip_follows : {X Y : Type 0} (R S : X → Y → Type 0) → ((x : X) (y : Y) → R x y → S x y) → (xs : List X) (ys : List Y) → AllZip R xs ys → AllZip S xs ys
zip_follows R S step [] [] all = tt
zip_follows R S step (x ∷ xs) (y ∷ ys) all = (step x y all.0, zip_follows R S step xs ys all.1)
zip_follows R S step [] (_ ∷ _) all = absurd all
zip_follows R S step (_ ∷ _) [] all = absurd all

all_behind : {X : Type 0} (P : X → Type 0) (xs ys : List X) → AllByRecursion P (xs ++ ys) → AllByRecursion P ys
all_behind P [] ys all = all
all_behind P (x ∷ xs) ys all = all_behind P xs ys all.1

module _ {G E : Type 0} (dimensions : G → List Dimension) (is_key : E → List ℕ → List ℕ → Type 0) (source target : StoredArray G E) (begin : Tasks G) where
  abbrev IsPlan : List ℕ → TaskPlan → Type 0
  IsPlan = IsPlanOf dimensions is_key source target begin

  abbrev IsTaskOf : List ℕ → Task → Type 0
  IsTaskOf = IsTask (dimensions begin.grid.now) (map non_zero_u64_get begin.each.now) begin.elements begin.first.items begin.at.items

  abbrev IsAbout : Tasks G → Type 0
  IsAbout = IsAboutTasks begin.grid.now (map non_zero_u64_get begin.each.now) begin.elements begin.first.items begin.at.items

  -- these groups came, of which these are the tasks with their parts
  abbrev pub TasksHaveCome : Tasks G → List TaskPlan → Type 0
  TasksHaveCome now plans = (came : List (List ℕ)) × (groups_to_come begin ≡ came ++ groups_to_come now) × AllZip IsPlan came plans × IsAbout now
      × CanGive dimensions now

  pub first_task : (now : Tasks G) → now ≡ begin → CanGive dimensions begin → TasksHaveCome now []
  first_task now same can =
      rw same ([], refl, tt, record { same_grid = refl; same_each = refl; same_elements = refl; same_first = refl; same_at = refl }, can)

  pub one_more_task : (before after : Tasks G) (plan : TaskPlan) (plans : List TaskPlan) → TasksHaveCome before plans
      → GivesTask dimensions before (Some (Ok plan.0)) after → HasPartsOf dimensions is_key source target plan → TasksHaveCome after (plans ++ plan ∷ [])
  one_more_task before after plan plans (came, left, are, about, can) gives have =
      let is : IsTaskOf plan.0.group.items plan.0 =
      rw (← about.same_grid, ← about.same_each, ← about.same_elements, ← about.same_first, ← about.same_at) (gives.task can) in
      let (now_came, all, now_are) = one_came IsPlan (groups_to_come begin) came (groups_to_come before) (groups_to_come after) plan.0.group.items plan
      plans (plans ++ plan ∷ []) left gives.gives are (is, have) refl
      in (
        now_came,
        all,
        now_are,
        rw (about.same_grid, about.same_each, about.same_elements, about.same_first, about.same_at) at gives.about,
        gives.can can,
      )

  pub last_task : (before after : Tasks G) (plans : List TaskPlan) → TasksHaveCome before plans → GivesTask dimensions before None after
      → PlansToCome dimensions is_key source target begin plans
  last_task before after plans (came, left, are, about, can) gives =
      subst (λ groups. AllZip IsPlan groups plans) (sym (left ∙ ap (λ xs. came ++ xs) gives.gives.0 ∙ append-nil came)) are

  pub tasks_ahead : HavePlans dimensions is_key source target begin (groups_to_come begin) → (now : Tasks G) (plans : List TaskPlan) → TasksHaveCome now plans
      → (others : List TaskPlan) × PlansToCome dimensions is_key source target begin (plans ++ others)
  tasks_ahead have now plans (came, left, are, about, can) =
      let HasPlan : List ℕ → Type 0 = λ group. (plan : TaskPlan) × IsPlan group plan in
      let still = all_behind HasPlan came (groups_to_come now) (subst (AllByRecursion HasPlan) left have) in
      let (others, also) = each_has HasPlan IsPlan (λ group has. has) (groups_to_come now) still in
      (others, rw left (both_zipped IsPlan came (groups_to_come now) plans others are also))

  -- ---- a share of the walk

  module _ (shared : Tasks G) (share : Share) (about : IsAbout shared) (left : groups_to_come shared ≡ share_of share (groups_to_come begin))
      (have : HavePlans dimensions is_key source target begin (groups_to_come begin)) where
    pub share_has : HavePlans dimensions is_key source target shared (groups_to_come shared)
    share_has =
        rw (about.same_grid, about.same_each, about.same_elements, about.same_first, about.same_at, left)
        (all_of_share (λ group. (plan : TaskPlan) × IsPlan group plan) share (groups_to_come begin) have)

    pub tasks_of_share : (plans : List TaskPlan) → PlansToCome dimensions is_key source target shared plans
        → (all : List TaskPlan) × PlansToCome dimensions is_key source target begin all × (share_of share all ≡ plans) × (length all ≡ length (groups_to_come begin))
    tasks_of_share plans are =
        let HasPlan : List ℕ → Type 0 = λ group. (plan : TaskPlan) × IsPlan group plan in
        of_all HasPlan IsPlan (each_has HasPlan IsPlan (λ group has. has)) share (groups_to_come begin) plans have
        (subst (λ groups. AllZip IsPlan groups plans) left (zip_follows (IsPlanOf dimensions is_key source target shared) IsPlan of_begin (groups_to_come shared) plans are))
      where
        of_begin : (group : List ℕ) (plan : TaskPlan) → IsPlanOf dimensions is_key source target shared group plan → IsPlan group plan
        of_begin group plan is = (rw (about.same_grid, about.same_each, about.same_elements, about.same_first, about.same_at) at is.0, is.1)
