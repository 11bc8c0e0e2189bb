use Rattle.std.proofs.Common.{◌≡◌, ◌∷◌, ◌∙◌, ap, map, refl, subst, sym}
use Rattle.std.specs.Int.NonZero.{non_zero_u64_get}
use Rattle.std.specs.List.{AllByRecursion}
use Rattle.zarrs_chunks.specs.Walks.{chunks_in}
use Rattle.zarrs_chunk_plan.proofs.Plans.{not_empty_if_inside}
use Rattle.zarrs_chunk_plan.specs.seen.ChunkIter.{chunks_between}
use Rattle.zarrs_chunk_tasks.specs.Groups.{HoldsSomeOf}
use Rattle.zarrs_chunk_tasks.specs.Tasks.{IsTask}
use Rattle.zarrs_chunk_tasks.proofs.walk.TasksIterator.next.Goals as goal

pub returns-in-Ok-task_of-clause-steps : goal.returns-in-Ok-task_of-clause-steps
returns-in-Ok-task_of-clause-steps g c =
    let before = c.args.self.now in
    let ds = g.G.ChunkGridTraits.dimensions before.grid.now in
    let each = map non_zero_u64_get before.each.now in
    let task = c.in-Ok-task_of.task in
    let rest = chunks_between c.next.new.self in
    let steps = rw c.in-Ok.is at c.in_ok-group.ensures.steps in
    let gives : chunks_between before.groups ≡ c.in-Ok.group.items ∷ rest = steps.gives in
    let same : task.group.items ≡ c.in-Ok.group.items = c.in-Ok-task_of.ensures.group in
    record {
      gives = gives ∙ ap (λ first. first ∷ rest) (sym same);
      task = λ can.
          let (holds, _) = subst (AllByRecursion (HoldsSomeOf ds each before.elements)) gives can.hold in
          subst (λ group. IsTask ds each before.elements before.first.items before.at.items group task) (sym same)
          (c.in-Ok-task_of.ensures.task (can.cover (not_empty_if_inside _ _ holds.0 holds.1)) holds);
      about = record { same_grid = refl; same_each = refl; same_elements = refl; same_first = refl; same_at = refl };
      can = λ can. record {
        cover = can.cover;
        all = rw (ap chunks_in steps.chunks) can.all;
        hold = (subst (AllByRecursion (HoldsSomeOf ds each before.elements)) gives can.hold).1;
      };
      all = ap chunks_in steps.chunks;
    }
