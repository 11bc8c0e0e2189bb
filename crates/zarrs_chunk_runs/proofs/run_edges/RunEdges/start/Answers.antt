use Rattle.std.proofs.Common.{arith}
use Rattle.zarrs_chunk_runs.proofs.Places.{before_in_run, edge_found, start_found}
use Rattle.zarrs_chunk_runs.proofs.run_edges.RunEdges.start.Goals as goal

pub overflow_mul-result : goal.overflow_mul-result
overflow_mul-result c =
    let (run, is_run, place) = c.in_ok-place.ensures in
    let fits = place.fits in
    rw (place.first, c.get.ensures.value, place.edge) (omega (arith, before_in_run _ _ run is_run))

pub overflow_add-result : goal.overflow_add-result
overflow_add-result c =
    let (run, is_run, place) = c.in_ok-place.ensures in
    let fits = place.fits in
    rw (place.first, c.get.ensures.value, place.edge) (omega (arith, before_in_run _ _ run is_run))

pub returns : goal.returns
returns c =
    let (run, is_run, place) = c.in_ok-place.ensures in
    ((edge_found _ _ run is_run).0, rw (place.first, place.start, c.get.ensures.value, place.edge) (start_found _ _ run is_run))
