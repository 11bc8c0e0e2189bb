use Rattle.zarrs_chunk_questions.proofs.PartsAhead.{keys_in}
use Rattle.zarrs_chunk_tasks.proofs.PlannedTasks.{gives_plans}
use Rattle.programs.proofs.chunkplan.Common.{chained_in}
use Rattle.programs.specs.chunkplan.seen.Opened.{dimensions_in, key_in}
use Rattle.programs.proofs.chunkplan.task_lines.tasks_of.Goals as goal

pub returns : goal.returns
returns c =
    let stage = c.args.stage.now in
    let walk = c.in_ok-tasks_by.field-0 in
    let said = c.in_ok-tasks_by.ensures in
    let gives = gives_plans dimensions_in key_in stage.source.now stage.target.now walk chained_in keys_in (rw c.array_shape.ensures at c.all_fit.ensures)
    (rw c.array_shape-2.ensures at c.all_fit-2.ensures) stage.region c.as_slice-at.result.now stage.each.now said.has stage.order said.planned
    in
    record {
      has = rw c.as_slice-at.ensures.value at said.has;
      can = gives.can;
      all = gives.all;
      have = gives.have;
      are = λ plans come. record {
        has = rw c.as_slice-at.ensures.value at said.has;
        are_tasks = rw c.as_slice-at.ensures.value at (gives.are_tasks plans come);
        have_parts = gives.have_parts plans come;
      };
    }
