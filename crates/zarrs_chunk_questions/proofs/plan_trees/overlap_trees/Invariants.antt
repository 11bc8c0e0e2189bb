use Rattle.std.proofs.Common.{◌≡◌, map, take}
use Rattle.serde_json.specs.View.{view}
use Rattle.zarrs_chunk_questions.specs.Tasks.{overlap_tree}
use Rattle.zarrs_chunk_questions.proofs.plan_trees.overlap_trees.Given as goal

-- the parts so far have their trees
abbrev pub invariant-loop-part : goal.invariant-loop-part
invariant-loop-part l = map view l.trees.items ≡ map (overlap_tree l.written) (take l.part-index l.parts)
