use Rattle.std.specs.List.{AllZip}
use Rattle.zarrs_chunk_tasks.specs.seen.Choices.{rows_of}
use Rattle.zarrs_chunk_tasks.specs.seen.Thinning.{IsThinned}
use Rattle.zarrs_chunk_tasks.proofs.ThinnedRows.{HaveSome, items_of}
use Rattle.zarrs_chunk_tasks.proofs.thinning.thinned.Given as goal

-- each row has some items, and they were there before
abbrev pub invariant-loop-alloc : goal.invariant-loop-alloc
invariant-loop-alloc g l = HaveSome (rows_of l.rows.items) × AllZip IsThinned (rows_of l.fn.rows.items) (rows_of l.rows.items)

-- how many items there are
abbrev pub decreases-loop-alloc : goal.decreases-loop-alloc
decreases-loop-alloc g l = items_of l.rows.items
