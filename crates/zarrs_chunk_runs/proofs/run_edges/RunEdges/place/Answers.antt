use Rattle.std.proofs.Common.{length, map, ap, sym, arith}
use Rattle.zarrs_chunk_runs.specs.Runs.{run_of}
use Rattle.zarrs_chunk_runs.proofs.Places.{chunk_end_after, chunk_end_of_run, end_after, end_of_run, length_chunk_ends, length_ends}
use Rattle.zarrs_chunk_runs.proofs.run_edges.RunEdges.place.Goals as goal

pub index-requires : goal.index-requires
index-requires c =
    let runs = map run_of c.args.self.now.runs.items in
    omega (arith, length_chunk_ends runs, ap length c.args.self.now.counted, c.in_ok-edge.ensures.0)

pub overflow_sub-result : goal.overflow_sub-result
overflow_sub-result c =
    let (within, found) = c.in_ok-edge.ensures in
    omega (arith, rw c.args.self.now.counted at c.index.ensures, chunk_end_of_run _ _ c.index.result.now _ within found)

pub index-requires-2 : goal.index-requires-2
index-requires-2 c =
    let runs = map run_of c.args.self.now.runs.items in
    omega (arith, length_ends runs, ap length c.args.self.now.summed, c.in_ok-edge.ensures.0)

pub overflow_mul-result : goal.overflow_mul-result
overflow_mul-result c =
    let (within, found) = c.in_ok-edge.ensures in
    let end = end_of_run _ _ c.index-2.result.now _ within found in
    rw (c.get-2.ensures.value, c.get-3.ensures.value) (omega (arith, rw c.args.self.now.summed at c.index-2.ensures, end))

pub overflow_sub-result-2 : goal.overflow_sub-result-2
overflow_sub-result-2 c =
    let (within, found) = c.in_ok-edge.ensures in
    let end = end_of_run _ _ c.index-2.result.now _ within found in
    rw (c.get-2.ensures.value, c.get-3.ensures.value) (omega (arith, rw c.args.self.now.summed at c.index-2.ensures, end))

pub returns : goal.returns
returns c =
    let (within, found) = c.in_ok-edge.ensures in
    let runs = map run_of c.args.self.now.runs.items in
    let counted = rw c.args.self.now.counted at c.index.ensures in
    let summed = rw c.args.self.now.summed at c.index-2.ensures in (
      within,
      record {
        edge = ap (λ run. run.0) (sym found);
        first = omega (arith, counted, chunk_end_of_run _ _ c.index.result.now _ within found);
        start = rw (c.get-2.ensures.value, c.get-3.ensures.value) (omega (arith, summed, end_of_run _ _ c.index-2.result.now _ within found));
        counted = omega
            (arith, counted, chunk_end_of_run _ _ c.index.result.now _ within found, chunk_end_after runs c.args.run c.index.result.now within);
        fits = rw (c.get-2.ensures.value, c.get-3.ensures.value)
            (omega (arith, summed, end_of_run _ _ c.index-2.result.now _ within found, end_after runs c.args.run c.index-2.result.now within));
      },
    )
