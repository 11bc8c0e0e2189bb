use Rattle.std.proofs.Common.{refl}
use Rattle.zarrs_chunk_prepared.proofs.Rows.{is_read, is_row}
use Rattle.zarrs_chunk_prepared.proofs.read.next_axis.Goals as goal

pub returns-clause-next : goal.returns-clause-next
returns-clause-next c t behind long is =
    let read = is_read t behind c.args.numbers.now c.in_ok-head.head.now c.in_ok-head.rest.now c.in_ok-starts.starts.now c.in_ok-starts.rest.now
    c.in_ok-chunks.chunks.now c.in_ok-chunks.rest.now c.in_ok-edges.edges.now c.in_ok-edges.rest.now long is c.in_ok-head.ensures.cases
    c.in_ok-starts.ensures.cases c.in_ok-chunks.ensures.cases c.in_ok-edges.ensures.cases in
    (rw (read.grid_size, read.last_index, read.last_chunk, read.is_starts, read.is_chunks, read.is_edges) refl, read.is_rest)

pub returns-clause-numbers : goal.returns-clause-numbers
returns-clause-numbers c =
    is_row c.args.numbers.now c.in_ok-head.head.now c.in_ok-head.rest.now c.in_ok-starts.starts.now c.in_ok-starts.rest.now
    c.in_ok-chunks.chunks.now c.in_ok-chunks.rest.now c.in_ok-edges.edges.now c.in_ok-edges.rest.now c.in_ok-head.ensures.cases
    c.in_ok-starts.ensures.cases c.in_ok-chunks.ensures.cases c.in_ok-edges.ensures.cases
