-- What a store hasn't of the tasks of a stage, by the keys that were noted.
use Rattle.programs.proofs.chunkplan.Common.{◌≡◌, ◌↔◌, ◌<◌, ◌^◌, ◌++◌, ℕ, Contains, IsTrue, List, [], ◌∷◌, Some, Ok, Option, Bool, Result, AllByRecursion, AllZip}
use Rattle.programs.proofs.chunkplan.Common.{ap, arith, length, map, refl, subst, suc, sym, Box, Dimension, IsInside, IsPart, IsPlan, Part, moved}
use Rattle.programs.proofs.chunkplan.Common.{IsListed, Share, StoredChunks, Knows, TaskPlan, chained_in, then, StorageMetadata, Copying, Document, copy_to, lines_wanted}
use Rattle.programs.proofs.chunkplan.Common.{AsStoreKey, IsMissingText, IsThere, TellsDone, RunFault, Output, Meets}
use Rattle.zarrs_chunks.specs.Walks.{chunks_in}
use Rattle.zarrs_chunks.proofs.ChunksInBoxes.{are_those_inside}
use Rattle.zarrs_chunk_parts.specs.Plan.{Covers}
use Rattle.zarrs_chunk_plan.specs.seen.StoredChunks.{has_mark}
use Rattle.zarrs_chunk_plan.proofs.KnownMarks.{mark_tells}
use Rattle.zarrs_chunk_tasks.specs.declared.task.Task.{Task}
use Rattle.zarrs_chunk_tasks.proofs.TaskPlans.{inside_by_source, inside_by_target}
use Rattle.programs.specs.chunkplan.Planned.{Array, beside_by, copy_beside, source_in, target_in, target_shape, text_beside}
use Rattle.programs.specs.chunkplan.Stages.{AreStagePlans}
use Rattle.zarrs_chunk_tasks.specs.Tasks.{AreTasksBy}
use Rattle.programs.specs.chunkplan.seen.Resume.{HaveMarked, HaveNoted, are_stored, is_stored_whole, share_unless_stored}
use Rattle.programs.specs.chunkplan.seen.Opened.{dimensions_of, key_of}
use Rattle.programs.specs.chunkplan.seen.PlannedTasks.{HasPartsOf}
use Rattle.programs.specs.chunkplan.seen.Routes.{stage_of}
use Rattle.programs.specs.chunkplan.seen.Steps.{ReadLeaves}
use Rattle.zarrs_chunk_tasks.specs.declared.order.Order.{Order}
use Rattle.zarrs_chunk_tasks.specs.declared.order.Order.TheVariants.{Source, Target}
use Rattle.programs.specs.declared.chunkplan.route.Stage.{Stage as StageValue}
use Rattle.programs.proofs.chunkplan.KeySteps.{read_later}
use Rattle.programs.proofs.chunkplan.StoredParts.{both_true}

-- nothing was noted
pub none_noted : (target : List Dimension) (IsKeyOf : List ℕ → List ℕ → Type 0) (targets : List (List ℕ)) (stored : StoredChunks) (text : List ℕ)
    → Knows target IsKeyOf targets [] stored → text ≡ [] → HaveNoted target IsKeyOf targets [] stored text
none_noted target IsKeyOf targets stored text knows none = record {
  marked = record { store_keys = []; are_store_keys = λ key. (λ is. absurd (omega (arith, is.1)), λ is. is.0); knows = knows };
  are_texts = λ key is. absurd (omega (arith, is.1));
  unexpected = [];
  are_unexpected = refl;
  text_is = none;
}

-- ---- a task writes chunks of the stage alone

-- what holds of each chunk holds of each part
each_part : (P : List ℕ → Type 0) (ds : List Dimension) (IsKeyOf : List ℕ → List ℕ → Type 0) (b : Box) (chunks : List (List ℕ)) (parts : List Part)
    → AllZip (IsPart ds IsKeyOf b) chunks parts → ((chunk : List ℕ) → Contains chunks chunk → P chunk)
    → AllByRecursion (λ (part : Part). P part.chunk.items) parts
each_part P ds IsKeyOf b [] [] are holds = tt
each_part P ds IsKeyOf b (chunk ∷ chunks) (part ∷ parts) are holds = (
  subst P (sym are.0.numbers) (holds chunk (0, omega arith, refl)),
  each_part P ds IsKeyOf b chunks parts are.1 (λ other (k, within, is). holds other (suc k, omega arith, is)),
)
each_part P ds IsKeyOf b [] (_ ∷ _) are holds = absurd are
each_part P ds IsKeyOf b (_ ∷ _) [] are holds = absurd are

module _ (target : List Dimension) (IsKeyOf : List ℕ → List ℕ → Type 0) (region cover : Box) (covers : Covers target region cover)
    (keys : List (List ℕ)) (stored : StoredChunks) (marked : HaveMarked target IsKeyOf (chunks_in cover) keys stored) where
  -- a chunk of the box is marked if one of the keys is its own
  chunk_tells : (chunk : List ℕ) → IsInside stored.targets chunk → IsTrue (has_mark stored chunk) ↔ IsListed (AsStoreKey IsKeyOf) keys chunk
  chunk_tells chunk inside =
      let each = mark_tells target IsKeyOf (chunks_in cover) marked.store_keys stored marked.knows chunk inside in (
        λ yes.
            let (key, there, of) = each.0 yes in
            let (among, no_slash) = (marked.are_store_keys key).0 there in
            (key, among, (no_slash, of)),
        λ (key, among, (no_slash, of)). each.1 (key, (marked.are_store_keys key).1 (among, no_slash), of),
      )

  parts_tell : (parts : List Part) → AllByRecursion (λ (part : Part). IsInside stored.targets part.chunk.items) parts
      → IsTrue (are_stored stored parts) ↔ AllByRecursion (IsThere IsKeyOf keys) parts
  parts_tell [] inside = (λ _. tt, λ _. refl)
  parts_tell (part ∷ parts) inside =
      let here = both_true part.whole (has_mark stored part.chunk.items) in
      let both = both_true (is_stored_whole stored part) (are_stored stored parts) in
      let chunk = chunk_tells part.chunk.items inside.0 in
      let rest = parts_tell parts inside.1 in (
        λ yes.
            let (one, others) = both.0 yes in
            let (whole, marks) = here.0 one in
            ((whole, chunk.0 marks), rest.0 others),
        λ ((whole, listed), others). both.1 (here.1 (whole, chunk.1 listed), rest.1 others),
      )

  -- a task that writes into the region is done if all that is
  task_tells : (task : Task) (into : List Part) → IsPlan target IsKeyOf task.target into
      → ((to : List ℕ) → IsInside task.target to → IsInside region to)
      → IsTrue (are_stored stored into) ↔ AllByRecursion (IsThere IsKeyOf keys) into
  task_tells task into plan within =
      parts_tell into
      (each_part (IsInside stored.targets) target IsKeyOf task.target (chunks_in plan.cover) into plan.are_parts
      (λ chunk among.
      let (index, holds, inside) = (plan.is_cover.named chunk).0 ((are_those_inside plan.cover plan.is_cover.is_box chunk).0 among) in
      let meets : Meets target region chunk = (index, holds, within index inside) in
      let there = (are_those_inside cover covers.is_box chunk).1 ((covers.named chunk).1 meets) in
      (are_those_inside stored.targets marked.knows.is_box chunk).0
      (subst (λ chunks. Contains chunks chunk) (sym marked.knows.same_targets) there)))

module _ (stage : StageValue) (cover : Box) (covers : Covers (dimensions_of stage.target.now) (moved stage.at.items stage.region) cover)
    (few : length (chunks_in cover) < 2 ^ 29) (keys : List (List ℕ)) (stored : StoredChunks) where
  module _ (plans : List TaskPlan) (are : AreStagePlans (stage_of stage) plans) where
    abbrev tasks : List Task
    tasks = map (λ (plan : TaskPlan). plan.0) plans

    inside : (task : Task) → Contains tasks task → (to : List ℕ) → IsInside task.target to → IsInside (moved stage.at.items stage.region) to
    inside = of_order stage.order are.are_tasks
      where
        of_order : (order : Order)
            → AreTasksBy order (dimensions_of stage.source.now) (dimensions_of stage.target.now) (stage_of stage).each stage.region stage.at.items tasks
            → (task : Task) → Contains tasks task → (to : List ℕ) → IsInside task.target to → IsInside (moved stage.at.items stage.region) to
        of_order Target =
            inside_by_target (dimensions_of stage.source.now) (dimensions_of stage.target.now) stage.region stage.at.items _ are.has tasks
            (chained_in stage.target.now.grid)
        of_order Source =
            inside_by_source (dimensions_of stage.source.now) (dimensions_of stage.target.now) stage.region stage.at.items _ are.has tasks
            (chained_in stage.source.now.grid)

    tells : HaveMarked (dimensions_of stage.target.now) (key_of stage.target.now) (chunks_in cover) keys stored
        → TellsDone (key_of stage.target.now) keys plans (λ (plan : TaskPlan). are_stored stored plan.1.1)
    tells marked = each plans are.have_parts (λ task among. among)
      where
        each : (some : List TaskPlan) → AllByRecursion (HasPartsOf stage.source.now stage.target.now) some
            → ((task : Task) → Contains (map (λ (plan : TaskPlan). plan.0) some) task → Contains tasks task)
            → TellsDone (key_of stage.target.now) keys some (λ (plan : TaskPlan). are_stored stored plan.1.1)
        each [] have among = tt
        each (plan ∷ others) have among = (
          task_tells (dimensions_of stage.target.now) (key_of stage.target.now) (moved stage.at.items stage.region) cover covers keys stored marked plan.0
              plan.1.1 have.0.writes
              (inside plan.0 (among plan.0 (0, omega arith, refl))),
          each others have.1 (λ task (k, within, is). among task (suc k, omega arith, is)),
        )

    pub still_missing : (unexpected : List ℕ) (noted : HaveNoted (dimensions_of stage.target.now) (key_of stage.target.now) (chunks_in cover) keys stored unexpected)
        (share : Share) → IsMissingText (stage_of stage) keys share plans (share_unless_stored (Some stored) share plans ++ unexpected)
    still_missing unexpected noted share = record {
      count = length (chunks_in cover);
      writes = (cover, covers, refl);
      few = few;
      are_texts = noted.are_texts;
      is_done = λ (plan : TaskPlan). are_stored stored plan.1.1;
      tells = tells noted.marked;
      unexpected = noted.unexpected;
      are_unexpected = noted.are_unexpected;
      text_is = ap (λ text. share_unless_stored (Some stored) share plans ++ text) noted.text_is;
    }

-- ---- what a document asks for of a copy

pub of_share : (document : Document) (source : Array) (stored : StorageMetadata) (copying : Copying) (share : Share) → source_in document (Ok source)
    → document.task ≡ copy_to stored copying → document.wanted ≡ lines_wanted share → (bytes : List ℕ) (start read : Bool) (left : Option (List ℕ))
    (before after : Output) (r : Result (Unit {0}) RunFault)
    → ReadLeaves (then (target_in stored (target_shape copying.selection document.shape)) (copy_beside copying share bytes source)) r start read left before after
    → ReadLeaves (text_beside document bytes) r start read left before after
of_share document source stored copying share made is_task is_share bytes start read left before after r leaves =
    read_later (source_in document) (beside_by document bytes document.wanted document.task) start left before source made after read r
    (rw (is_share, is_task) leaves)
