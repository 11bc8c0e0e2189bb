use Rattle.zarrs_chunks.specs.seen.Grids.{chained_in}
use Rattle.zarrs_chunk_tasks.proofs.PlannedTasks.{gives_plans}
use Rattle.zarrs_chunk_questions.specs.seen.Copies.{dimensions_in, key_in}
use Rattle.zarrs_chunk_questions.proofs.PartsAhead.{keys_in}
use Rattle.zarrs_chunk_questions.proofs.copying.Copying.tasks.Goals as goal

pub returns-in-Ok : goal.returns-in-Ok
returns-in-Ok c =
    let copying = c.args.self.now in
    let said = rw (c.deref.ensures.value, c.deref-2.ensures.value) at c.in-Ok.ensures in (
      said.has,
      gives_plans dimensions_in key_in copying.source copying.target c.in-Ok.walk chained_in keys_in (rw c.array_shape.ensures at c.all_fit.ensures)
          (rw c.array_shape-2.ensures at c.all_fit-2.ensures) copying.region copying.at.items copying.task_chunks.items said.has copying.order said.planned,
    )
