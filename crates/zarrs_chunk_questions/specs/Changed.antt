-- The answer to `changed_chunks`: what becomes of the chunks of an array that gets another shape.
-- Sources: Zarr V3 core, chunk grids; the plan of a resize and the form are this library's own.
use Rattle.std.specs.Prelude.{◌≡◌, ℕ, List, codes}
use Rattle.serde_json.specs.Data.{Data, member, no_members, object}
use Rattle.zarrs_chunk_base.specs.Grid.{Grid}
use Rattle.zarrs_chunks.specs.GridKinds.{GridKind, IsGridIn}
use Rattle.zarrs_chunk_plan.specs.Resize.{AreChangedChunks}
use Rattle.zarrs_chunk_plan.specs.declared.resize.changed.ChangedChunks.{ChangedChunks}
use Rattle.zarrs_chunk_questions.specs.Trees.{numbers_tree}

-- ---- the form

-- along each dimension, how many chunks hold elements of the array after the resize, and before it, and how many are kept
abbrev pub changed_tree : ChangedChunks → Data
changed_tree changed =
    object (member (codes "after") (numbers_tree changed.after.items)
    (member (codes "before") (numbers_tree changed.before.items)
    (member (codes "kept") (numbers_tree changed.kept.items) no_members)))

-- ---- of a question

-- The answer `t` for an array that has this grid, of which the tree is the metadata: what becomes of its chunks when it gets the shape, and so the
-- grid that the same tree makes of that.
pub record IsChangedAnswer (tree : Data) (resize : List ℕ) (grid : Grid) (t : Data) : Type 0 where
  pub kind : GridKind
  pub resized : Grid
  pub is_grid : IsGridIn tree resize kind resized
  pub changed : ChangedChunks
  pub are_changed : AreChangedChunks grid.dimensions resized.dimensions changed
  pub same : t ≡ changed_tree changed
