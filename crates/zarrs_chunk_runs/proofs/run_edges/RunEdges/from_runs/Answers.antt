use Rattle.std.proofs.Common.{map, arith}
use Rattle.zarrs_chunk_runs.specs.Runs.{run_of}
use Rattle.zarrs_chunk_runs.proofs.Places.{chunks_fit, next_count, next_size}
use Rattle.zarrs_chunk_runs.proofs.RunSums.{sum_of_edges}
use Rattle.zarrs_chunk_runs.proofs.run_edges.RunEdges.from_runs.Goals as goal

pub overflow_mul-end : goal.overflow_mul-end
overflow_mul-end c =
    let next = next_size c.deref-edge-items.result.now c.loop-edge.edge-index c.loop-edge-item.result (omega arith) c.loop-edge-item.is in
    let fits = rw (← c.deref-edge-items.ensures.value) at c.requires.fits in
    rw (c.get.ensures.value, c.get-in-loop-edge.ensures.value)
    (omega (arith, c.loop-edge.invariant.2, next, sum_of_edges (map run_of c.deref-edge-items.result.now), fits))

pub overflow_add-end : goal.overflow_add-end
overflow_add-end c =
    let next = next_size c.deref-edge-items.result.now c.loop-edge.edge-index c.loop-edge-item.result (omega arith) c.loop-edge-item.is in
    let fits = rw (← c.deref-edge-items.ensures.value) at c.requires.fits in
    rw (c.get.ensures.value, c.get-in-loop-edge.ensures.value)
    (omega (arith, c.loop-edge.invariant.2, next, sum_of_edges (map run_of c.deref-edge-items.result.now), fits))

pub overflow_add-chunk_end : goal.overflow_add-chunk_end
overflow_add-chunk_end c =
    let next = next_count c.deref-edge-items.result.now c.loop-edge.edge-index c.loop-edge-item.result (omega arith) c.loop-edge-item.is in
    omega (
      arith,
      c.loop-edge.invariant.3,
      next,
      chunks_fit c.deref-edge-items.result.now,
      sum_of_edges (map run_of c.deref-edge-items.result.now),
      rw (← c.deref-edge-items.ensures.value) at c.requires.fits,
    )
