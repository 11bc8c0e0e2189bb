use Rattle.std.proofs.Common.{◌<◌, ◌≤◌, ℕ, [], get_or, length}
use Rattle.zarrs_chunk_tasks.specs.seen.Choices.{rows_of}
use Rattle.zarrs_chunk_tasks.proofs.thinning.longest_row.Given as goal

-- it is the longest one so far
abbrev pub invariant-loop-place : goal.invariant-loop-place
invariant-loop-place g l =
    (l.longest < length l.rows)
    × ((k : ℕ) → k < l.place → length (get_or (rows_of l.rows) k []) ≤ length (get_or (rows_of l.rows) l.longest []))
