use Rattle.std.proofs.Common.{◌≡◌, ◌++◌, List, length, map}
use Rattle.std.specs.List.{AllByRecursion, flat_map}
use Rattle.zarrs_chunk_prepared.specs.Prepared.{HasAsMany, Table, row}
use Rattle.zarrs_chunk_prepared.specs.seen.Axis.{table_of}
use Rattle.zarrs_chunk_prepared.proofs.Rows.{AreReadSoFar}
use Rattle.zarrs_chunk_prepared.proofs.read.read_axes.Given as goal

-- of the numbers of dimensions, those so far are read, and those of the others are left; and so it is of all numbers
abbrev pub invariant-loop-axis : goal.invariant-loop-axis
invariant-loop-axis l =
    ((tables : List Table) → AllByRecursion HasAsMany tables → l.numbers ≡ flat_map row tables → AreReadSoFar l.axes.items l.rest tables)
    × (l.numbers ≡ flat_map row (map table_of l.axes.items) ++ l.rest)

-- how many numbers are left
abbrev pub decreases-loop-axis : goal.decreases-loop-axis
decreases-loop-axis l = length l.rest
