use Rattle.std.proofs.Common.{◌≡◌, map, take}
use Rattle.serde_json.specs.View.{view}
use Rattle.zarrs_chunk_tasks.specs.Counts.{count_along}
use Rattle.zarrs_chunk_questions.specs.Tasks.{number_tree}
use Rattle.zarrs_chunk_questions.proofs.counting.count_tree.Given as goal

-- the numbers so far have their trees
abbrev pub invariant-loop-along : goal.invariant-loop-along
invariant-loop-along l = map view l.numbers.items ≡ map (λ along. number_tree (count_along l.count along)) (take l.along-index l.counts)
