use Rattle.std.proofs.Common.{◌≡◌, length, map, min, take}
use Rattle.zarrs_chunk_base.specs.Greatest.{greatest}
use Rattle.zarrs_chunk_plan.specs.Counts.{product}
use Rattle.zarrs_chunk_tasks.specs.seen.Choices.{rows_of}
use Rattle.zarrs_chunk_tasks.proofs.thinning.choices_of.Given as goal

-- the choices from the rows so far are counted
abbrev pub invariant-loop-row : goal.invariant-loop-row
invariant-loop-row g l = l.choices ≡ min greatest (product (map length (rows_of (take l.row-index l.rows))))
