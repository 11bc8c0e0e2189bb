use Rattle.std.proofs.Common.{arith}
use Rattle.zarrs_chunk_runs.proofs.Places.{home_found, length_ends, none_starts, own_chunk, starts_before}
use Rattle.zarrs_chunk_runs.proofs.RunSums.{running_rises}
use Rattle.zarrs_chunk_runs.specs.seen.RunEdges.{runs_of}
use Rattle.zarrs_chunk_runs.proofs.run_edges.RunEdges.find_home.Goals as goal

pub first_greater-requires : goal.first_greater-requires
first_greater-requires c = rw (c.deref.ensures.value, c.args.self.now.summed) (running_rises _)

pub returns-in_err-place-clause-found : goal.returns-in_err-place-clause-found
returns-in_err-place-clause-found c =
    rw c.from_residual.ensures
    (none_starts _ _ _ (rw (c.deref.ensures.value, c.args.self.now.summed) at c.first_greater.ensures.first) c.in_err-place.ensures)

pub overflow_sub-index : goal.overflow_sub-index
overflow_sub-index c =
    let above = rw (c.deref.ensures.value, c.args.self.now.summed) at c.first_greater.ensures.first in
    let (within, place) = c.in_ok-place.ensures in
    rw place.start (starts_before _ _ _ above (omega arith))

pub returns-clause-found : goal.returns-clause-found
returns-clause-found c =
    let above = rw (c.deref.ensures.value, c.args.self.now.summed) at c.first_greater.ensures.first in
    let (within, place) = c.in_ok-place.ensures in
    let positive = rw place.edge at c.in_ok-place.place.edge.ok in
    rw (place.first, c.quotient_and_rest-chunks.ensures.quotient, c.quotient_and_rest-chunks.ensures.rest, place.start, place.edge)
    (home_found _ _ _ above within positive)

pub overflow_add-result : goal.overflow_add-result
overflow_add-result c =
    let above = rw (c.deref.ensures.value, c.args.self.now.summed) at c.first_greater.ensures.first in
    let (within, place) = c.in_ok-place.ensures in
    let positive = rw place.edge at c.in_ok-place.place.edge.ok in
    let counted = place.counted in
    rw (c.quotient_and_rest-chunks.ensures.quotient, place.start, place.edge) (omega (arith, own_chunk _ _ _ above within positive))

pub returns-in_err-place-clause-counted : goal.returns-in_err-place-clause-counted
returns-in_err-place-clause-counted c =
    rw (c.deref.ensures.value, c.args.self.now.summed, length_ends (runs_of c.args.self.now)) at c.first_greater.ensures.counted

pub returns-clause-counted : goal.returns-clause-counted
returns-clause-counted c =
    rw (c.deref.ensures.value, c.args.self.now.summed, length_ends (runs_of c.args.self.now)) at c.first_greater.ensures.counted
