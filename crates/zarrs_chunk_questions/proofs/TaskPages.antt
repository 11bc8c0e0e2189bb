-- The tasks that a walk gives, each with its parts, and the page of some of them.
use Rattle.std.proofs.Common.{◌≡◌, ◌∙◌, ℕ, zero, suc, ◌+◌, ◌*◌, ◌-◌, ◌≤◌, List, [], ◌∷◌, ◌++◌, Option, ap, ap₂, append-nil, drop, length, map, min, refl}
use Rattle.std.proofs.Common.{subst, sym, take, unwrap_or, arith}
use Rattle.std.proofs.Math.Seq.{take-append_seam}
use Rattle.std.proofs.lemmas.List.{length-map, map-append, take-map, take_all}
use Rattle.std.proofs.lemmas.Slice.Zip.{AllZip-long}
use Rattle.std.specs.Int.NonZero.{non_zero_u64_get}
use Rattle.std.specs.List.{AllByRecursion, AllZip}
use Rattle.serde_json.specs.Data.{Data}
use Rattle.serde_json.specs.View.{view}
use Rattle.serde_json.specs.declared.value.Value.{Value}
use Rattle.zarrs_chunk_base.specs.Greatest.{greatest}
use Rattle.zarrs_chunk_plan.specs.Counted.{counted}
use Rattle.zarrs_chunk_plan.proofs.ByNumber.{counted_most}
use Rattle.zarrs_chunks.specs.declared.chunk_grid.named.ChunkGrid.{ChunkGrid}
use Rattle.zarrs_chunk_tasks.specs.Tasks.{TaskPlan}
use Rattle.zarrs_chunk_tasks.specs.declared.task.Task.{Task}
use Rattle.zarrs_chunk_tasks.specs.declared.walk.Tasks.{Tasks}
use Rattle.zarrs_chunk_tasks.specs.seen.Tasks.{IsAboutTasks, all_groups, groups_to_come}
use Rattle.zarrs_chunk_tasks.proofs.TasksBegun.{TasksHaveCome, tasks_ahead, zip_follows}
use Rattle.zarrs_chunk_questions.specs.Pages.{count_of, is_more, page_tree}
use Rattle.zarrs_chunk_questions.specs.Tasks.{HasTasksOf, IsTasksAnswer, source_dimensions, task_tree}
use Rattle.zarrs_chunk_questions.specs.declared.copying.Copying.{Copying}
use Rattle.zarrs_chunk_questions.specs.seen.Copies.{GivesTasksOf, HasPartsBetween, HavePlans, IsPlanOf, OpenedArray, copy_of, dimensions_in, key_in, parts_in, parts_of}
use Rattle.zarrs_chunk_questions.proofs.Lengths.{text_long}
use Rattle.zarrs_chunk_questions.proofs.Listed.{all_behind}
use Rattle.zarrs_chunk_questions.proofs.LongPages.{long_tasks, part_least}

-- ---- what came of a walk

module _ {X Y : Type 0} (R : X → Y → Type 0) (all came left : List X) (ys : List Y) (most : ℕ) (split : all ≡ came ++ left)
    (are : AllZip R came ys) where
  -- as many as were asked for
  pub as_many_came : length ys ≡ most → AllZip R (take most all) ys
  as_many_came many =
      let long : most ≡ length came = sym many ∙ AllZip-long R came ys are in
      subst (λ xs. AllZip R xs ys) (sym (ap (take most) split ∙ ap (λ n. take n (came ++ left)) long ∙ take-append_seam came left)) are

  -- all that there are, which are no more
  pub all_came : left ≡ [] → length ys ≤ most → AllZip R (take most all) ys
  all_came none few =
      let long = AllZip-long R came ys are in
      let same : all ≡ came = split ∙ ap (λ xs. came ++ xs) none ∙ append-nil came in
      subst (λ xs. AllZip R xs ys) (sym (ap (take most) same ∙ take_all most came (omega arith))) are

-- of one more the tree
pub one_tree_more : (trees more : List Value) (tree : Value) (plans : List TaskPlan) (plan : TaskPlan)
    → map view trees ≡ map task_tree plans → view tree ≡ task_tree plan → more ≡ trees ++ tree ∷ []
    → map view more ≡ map task_tree (plans ++ plan ∷ [])
one_tree_more trees more tree plans plan written told longer =
    ap (map view) longer ∙ map-append view trees (tree ∷ []) ∙ ap₂ (λ xs x. xs ++ x ∷ []) written told
    ∙ sym (map-append task_tree plans (plan ∷ []))

-- as many trees as tasks
pub as_many_trees : (trees : List Value) (plans : List TaskPlan) → map view trees ≡ map task_tree plans → length plans ≡ length trees
as_many_trees trees plans written = sym (length-map plans task_tree) ∙ ap length (sym written) ∙ length-map trees view

-- ---- how many parts tasks have

parts_append : (plans more : List TaskPlan) → parts_in (plans ++ more) ≡ parts_in plans + parts_in more
parts_append [] more = omega arith
parts_append (plan ∷ plans) more = let rest = parts_append plans more in omega arith

-- one task more has its parts more
pub parts_pushed : (plans : List TaskPlan) (plan : TaskPlan) → parts_in (plans ++ plan ∷ []) ≡ parts_in plans + parts_of plan
parts_pushed plans plan = let both = parts_append plans (plan ∷ []) in omega arith

taken_zipped : {X Y : Type 0} (R : X → Y → Type 0) (n : ℕ) (xs : List X) (ys : List Y) → AllZip R xs ys → AllZip R (take n xs) (take n ys)
taken_zipped R zero xs ys are = tt
taken_zipped R (suc n) [] [] are = tt
taken_zipped R (suc n) (x ∷ xs) (y ∷ ys) are = (are.0, taken_zipped R n xs ys are.1)
taken_zipped R (suc n) _ _ are = absurd are

parts_taken : (n : ℕ) (plans more : List TaskPlan) → length plans ≤ n → parts_in plans ≤ parts_in (take n (plans ++ more))
parts_taken n [] more few = omega arith
parts_taken zero (plan ∷ plans) more few = absurd (omega arith)
parts_taken (suc n) (plan ∷ plans) more few = let rest = parts_taken n plans more (omega arith) in omega arith

-- of a walk that has given tasks, at most so many, those that are asked for have as many parts
pub as_many_plans : (source target : OpenedArray) (begin now : Tasks ChunkGrid) (plans : List TaskPlan) (most many : ℕ)
    → HavePlans source target begin (groups_to_come begin) → TasksHaveCome dimensions_in key_in source target begin now plans
    → length plans ≤ most → many ≤ parts_in plans
    → (all : List TaskPlan) × AllZip (IsPlanOf source target begin) (take most (groups_to_come begin)) all × (many ≤ parts_in all)
as_many_plans source target begin now plans most many have came few enough =
    let (others, come) = tasks_ahead dimensions_in key_in source target begin have now plans came in
    let taken = parts_taken most plans others few in
    (take most (plans ++ others), taken_zipped (IsPlanOf source target begin) most (groups_to_come begin) (plans ++ others) come, omega arith)

-- ---- some of all

-- where some have something each, so have all, and these are some of that
module _ {X Y : Type 0} (R : X → Y → Type 0) where
  some_of_all : (first count : ℕ) (xs : List X) (ys : List Y) → AllByRecursion (λ x. (y : Y) × R x y) xs → AllZip R (take count (drop first xs)) ys
      → (all : List Y) × AllZip R xs all × (take count (drop first all) ≡ ys)
  some_of_all zero zero [] [] have are = ([], tt, refl)
  some_of_all zero zero (x ∷ xs) [] have are =
      let (all, zipped, same) = some_of_all zero zero xs [] have.1 tt in (have.0.0 ∷ all, (have.0.1, zipped), refl)
  some_of_all zero zero xs (_ ∷ _) have are = absurd are
  some_of_all zero (suc count) [] [] have are = ([], tt, refl)
  some_of_all zero (suc count) [] (_ ∷ _) have are = absurd are
  some_of_all zero (suc count) (x ∷ xs) [] have are = absurd are
  some_of_all zero (suc count) (x ∷ xs) (y ∷ ys) have are =
      let (all, zipped, same) = some_of_all zero count xs ys have.1 are.1 in (y ∷ all, (are.0, zipped), ap (λ zs. y ∷ zs) same)
  some_of_all (suc first) zero [] [] have are = ([], tt, refl)
  some_of_all (suc first) zero [] (_ ∷ _) have are = absurd are
  some_of_all (suc first) (suc count) [] [] have are = ([], tt, refl)
  some_of_all (suc first) (suc count) [] (_ ∷ _) have are = absurd are
  some_of_all (suc first) count (x ∷ xs) ys have are =
      let (all, zipped, same) = some_of_all first count xs ys have.1 are in (have.0.0 ∷ all, (have.0.1, zipped), same)

drop_mapped : {X Y : Type 0} (f : X → Y) (n : ℕ) (xs : List X) → drop n (map f xs) ≡ map f (drop n xs)
drop_mapped f zero xs = refl
drop_mapped f (suc n) [] = refl
drop_mapped f (suc n) (x ∷ xs) = drop_mapped f n xs

-- ---- pages

-- how many groups there are, as far as a number tells it
pub all_counted : (walk : Tasks ChunkGrid) (said : Option ℕ) (in_all : ℕ) → all_groups walk ≡ groups_to_come walk
    → said ≡ counted (length (all_groups walk)) → in_all ≡ unwrap_or said greatest → in_all ≡ count_of (groups_to_come walk)
all_counted walk said in_all all told is =
    is ∙ counted_most (length (all_groups walk)) said told ∙ ap (λ groups. min (length groups) greatest) all

module _ (copying : Copying) (walk gone : Tasks ChunkGrid) (first : ℕ) (gives : GivesTasksOf copying walk)
    (about : IsAboutTasks walk.grid.now (map non_zero_u64_get walk.each.now) walk.elements walk.first.items walk.at.items gone)
    (left : groups_to_come gone ≡ drop first (groups_to_come walk)) where
  abbrev groups : List (List ℕ)
  groups = groups_to_come walk

  abbrev IsOne : List ℕ → TaskPlan → Type 0
  IsOne = IsPlanOf copying.source copying.target walk

  -- the walk can go on from where it went
  pub still_have : HavePlans copying.source copying.target gone (groups_to_come gone)
  still_have =
      rw (about.same_grid, about.same_each, about.same_elements, about.same_first, about.same_at, left)
      (all_behind (λ group. (plan : TaskPlan) × IsOne group plan) first groups gives.have)

  plans_have_parts : (some : List (List ℕ)) (plans : List TaskPlan) → AllZip IsOne some plans
      → AllByRecursion (HasPartsBetween copying.source copying.target) plans
  plans_have_parts [] [] all = tt
  plans_have_parts (group ∷ some) (plan ∷ plans) all = (all.0.1, plans_have_parts some plans all.1)
  plans_have_parts [] (_ ∷ _) all = absurd all
  plans_have_parts (_ ∷ _) [] all = absurd all

  module _ (most count in_all : ℕ) (has : HasTasksOf (copy_of copying)) (is_all : in_all ≡ count_of (groups_to_come walk))
      (wanted : count ≡ min most (in_all - first)) (plans : List TaskPlan)
      (are : AllZip (IsPlanOf copying.source copying.target gone) (take count (groups_to_come gone)) plans) where
    abbrev only : List TaskPlan → List Task
    only = map (λ (plan : TaskPlan). plan.0)

    zipped : AllZip IsOne (take count (drop first groups)) plans
    zipped = subst (λ some. AllZip IsOne (take count some) plans) left (zip_follows (IsPlanOf copying.source copying.target gone) IsOne of_walk _ plans are)
      where
        of_walk : (group : List ℕ) (plan : TaskPlan) → IsPlanOf copying.source copying.target gone group plan → IsOne group plan
        of_walk group plan is = (rw (about.same_grid, about.same_each, about.same_elements, about.same_first, about.same_at) at is.0, is.1)

    -- the page of the tasks that were made
    pub tasks_page : (t : Data) → t ≡ page_tree (map task_tree plans) (is_more first (length plans) in_all)
        → IsTasksAnswer (copy_of copying) first most t
    tasks_page t is =
        let (all, come, same) = some_of_all IsOne first count groups plans gives.have zipped in
        let long : length (only all) ≡ length groups = length-map all (λ (plan : TaskPlan). plan.0) ∙ AllZip-long IsOne groups all come in
        let as_many : count_of (only all) ≡ in_all = ap (λ n. min n greatest) long ∙ sym is_all in
        let which : min (count_of (only all) - first) most ≡ count = rw as_many (omega arith) in
        record {
          has = has;
          tasks = only all;
          are_tasks = gives.are_tasks all come;
          plans = plans;
          are_some = sym (ap (λ n. take n (drop first (only all))) which ∙ ap (take count) (drop_mapped (λ (plan : TaskPlan). plan.0) first all)
              ∙ take-map (λ (plan : TaskPlan). plan.0) count (drop first all) ∙ ap only same);
          have_parts = plans_have_parts (take count (drop first groups)) plans zipped;
          tree = is ∙ ap (λ n. page_tree (map task_tree plans) (is_more first (length plans) n)) (sym as_many);
        }

    -- where they have too many parts, the page is as long
    pub long_tasks_page : (too_many : ℕ) → too_many ≤ parts_in plans
        → (t : Data) × IsTasksAnswer (copy_of copying) first most t
        × (too_many * part_least (source_dimensions (copy_of copying)) ≤ text_long t)
    long_tasks_page too_many many =
        let t = page_tree (map task_tree plans) (is_more first (length plans) in_all) in
        let have_parts = plans_have_parts (take count (drop first groups)) plans zipped in
        (t, tasks_page t refl, long_tasks (copy_of copying) has too_many plans (is_more first (length plans) in_all) have_parts many)
