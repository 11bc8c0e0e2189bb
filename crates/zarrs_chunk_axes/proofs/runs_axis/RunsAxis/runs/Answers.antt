use Rattle.std.proofs.Common.{sym, subst}
use Rattle.zarrs_chunk_runs.specs.Forms.{HasRuns}
use Rattle.zarrs_chunk_axes.specs.seen.RunsAxis.{run_edges_in}
use Rattle.zarrs_chunk_runs.proofs.Forms.{has_kept_runs}
use Rattle.zarrs_chunk_axes.proofs.runs_axis.RunsAxis.runs.Goals as goal

pub returns : goal.returns
returns c = subst (HasRuns (run_edges_in c.args.self.now)) (sym c.runs.ensures) (has_kept_runs c.args.self.now.edges)
