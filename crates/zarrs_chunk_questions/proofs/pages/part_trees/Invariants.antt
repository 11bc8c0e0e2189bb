use Rattle.std.proofs.Common.{◌≡◌, map, take}
use Rattle.serde_json.specs.View.{view}
use Rattle.zarrs_chunk_questions.specs.Pages.{part_tree}
use Rattle.zarrs_chunk_questions.proofs.pages.part_trees.Given as goal

-- the parts so far have their trees
abbrev pub invariant-loop-part : goal.invariant-loop-part
invariant-loop-part l = map view l.trees.items ≡ map part_tree (take l.part-index l.parts)
