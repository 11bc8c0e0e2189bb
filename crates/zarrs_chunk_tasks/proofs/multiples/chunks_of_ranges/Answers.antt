use Rattle.std.proofs.Common.{◌+◌, ◌*◌, arith}
use Rattle.std.specs.Int.NonZero.{non_zero_u64_get}
use Rattle.zarrs_chunk_tasks.proofs.EqualSteps.{at_most_all, no_less, telescoped}
use Rattle.zarrs_chunk_tasks.proofs.multiples.chunks_of_ranges.Goals as goal

pub overflow_sub-many : goal.overflow_sub-many
overflow_sub-many c =
    let few = at_most_all (non_zero_u64_get c.args.edge) c.args.long (c.args.start + c.args.long) c.args.many in
    omega (arith, few, c.multiples_among-whole.ensures)

pub returns : goal.returns
returns c =
    let edge = non_zero_u64_get c.args.edge in
    let few = at_most_all edge c.args.long (c.args.start + c.args.long) c.args.many in
    let all = telescoped edge c.args.long c.args.start c.args.many c.args.edge.ok c.requires.long in
    let order = no_less edge c.args.start (c.args.many * c.args.long) c.args.edge.ok in
    omega (arith, few, all, order, c.multiples_among-whole.ensures, c.div.ensures, c.div-2.ensures, c.saturating_add.ensures)
