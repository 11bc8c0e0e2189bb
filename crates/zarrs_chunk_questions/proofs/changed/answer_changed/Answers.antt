use Rattle.std.proofs.Common.{length}
use Rattle.serde_json.specs.View.{view}
use Rattle.zarrs_chunks.specs.seen.Grids.{grid_in, kind_in}
use Rattle.zarrs_chunk_plan.specs.Resize.{AreResized}
use Rattle.zarrs_chunk_questions.specs.Refused.{IsChangedRefusal}
use Rattle.zarrs_chunk_questions.proofs.ResizedGrids.{as_many, never_refused, one_tree}
use Rattle.zarrs_chunk_questions.proofs.changed.answer_changed.Goals as goal

pub returns-in-Ok : goal.returns-in-Ok
returns-in-Ok c =
    let (shape, made) = c.requires in
    let resized = c.in_ok-resized.resized in
    record {
      kind = kind_in resized;
      resized = grid_in resized;
      is_grid = c.in_ok-resized.ensures;
      changed = c.in-Ok.changed;
      are_changed = c.in-Ok.ensures.changed (one_tree (view c.args.chunk_grid.now) shape c.args.resize.now _ _ _ _ made c.in_ok-resized.ensures);
      same = c.in_ok-changed_tree-in-Ok.ensures;
    }

pub returns : goal.returns
returns c =
    let (shape, made) = c.requires in
    let before = (grid_in c.args.grid.now).dimensions in
    let after = (grid_in c.in_ok-resized.resized).dimensions in
    let tree = view c.args.chunk_grid.now in
    let resized : AreResized before after = one_tree tree shape c.args.resize.now _ _ _ _ made c.in_ok-resized.ensures in
    never_refused (length after) (length before) _ (IsChangedRefusal tree c.args.resize.now) c.in-Err.refusal c.map.result
    (as_many before after resized) c.in-Err.ensures.refused c.map.ensures
