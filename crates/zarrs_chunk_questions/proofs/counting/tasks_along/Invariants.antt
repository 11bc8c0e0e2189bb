use Rattle.std.proofs.Common.{◌≡◌, map, take}
use Rattle.zarrs_chunk_questions.proofs.counting.tasks_along.Given as goal

-- the numbers so far
abbrev pub invariant-loop-along : goal.invariant-loop-along
invariant-loop-along l = l.tasks.items ≡ map (λ along. along.tasks) (take l.along-index l.counts)
