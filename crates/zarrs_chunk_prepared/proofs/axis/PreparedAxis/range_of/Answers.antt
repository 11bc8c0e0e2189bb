use Rattle.std.proofs.Common.{◌<◌, ◌≤◌, arith, length}
use Rattle.zarrs_chunk_prepared.specs.seen.Axis.{table_of}
use Rattle.zarrs_chunk_prepared.proofs.Tables.{one_range}
use Rattle.zarrs_chunk_prepared.proofs.axis.PreparedAxis.range_of.Goals as goal

pub returns-then-not-has : goal.returns-then-not-has
returns-then-not-has c d is =
    let fits = c.ranges.chunk.fits in
    is.no_range c.args.chunk (omega arith) (rw c.if-not-has.true at c.has.ensures)

pub returns : goal.returns
returns c d is =
    let t = table_of c.args.self.now in
    let run = c.last_up_to-run.result in
    let (up_to, some) : (c.args.chunk ≤ t.last_chunk) × (0 < length t.starts) = rw c.if-not-has.false at c.has.ensures in
    let first = is.first_chunk some in
    let found = c.last_up_to-run.ensures.last is.chunks_rise (omega (arith, first)) in
    let of_run = is.ranges c.args.chunk run up_to found in
    let ranges = c.range_in_run.ensures (is.some run (omega (arith, is.long.chunks, c.last_up_to-run.ensures.within))) in
    one_range d t is c.args.chunk run of_run c.range_in_run.result (rw c.saturating_sub-before.ensures at ranges)
