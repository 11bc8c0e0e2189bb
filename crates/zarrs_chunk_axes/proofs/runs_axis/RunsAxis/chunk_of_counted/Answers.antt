use Rattle.std.proofs.Common.{◌<◌, length, subst, arith}
use Rattle.zarrs_chunk_runs.specs.Search.{HasDigits}
use Rattle.zarrs_chunk_runs.specs.seen.RunEdges.{runs_of}
use Rattle.zarrs_chunk_runs.proofs.Forms.{has_some, no_other_runs}
use Rattle.zarrs_chunk_axes.proofs.runs_axis.RunsAxis.chunk_of_counted.Goals as goal

pub returns-clause-at_most : goal.returns-clause-at_most
returns-clause-at_most c most (runs, has, digits) =
    c.find_index.ensures.counted.at_most most (subst (λ n. HasDigits n most) (no_other_runs c.args.self.now.edges runs has) digits)

pub returns-clause-grows : goal.returns-clause-grows
returns-clause-grows c =
    let some : 0 < length (runs_of c.args.self.now.edges) = has_some c.args.self.now.edges in
    let fits = c.args.comparisons.now.fits in
    omega (arith, c.find_index.ensures.counted.at_least some)
