use Rattle.std.proofs.Common.{◌∷◌, length, take}
use Rattle.zarrs_chunk_tasks.specs.seen.Choices.{FindsCheapest, rows_of}
use Rattle.zarrs_chunk_tasks.proofs.choices.+cheapest_choice.Given as goal

-- one row less is left
abbrev pub decreases-cheapest_choice : goal.decreases-cheapest_choice
decreases-cheapest_choice l = length l.rows.now

-- what was found with the sizes of the row so far
abbrev pub invariant-loop-size : goal.invariant-loop-size
invariant-loop-size l = FindsCheapest (take l.size-index l.size-items ∷ rows_of l.rows) l.room l.worth l.read l.decoded l.bound l.best
