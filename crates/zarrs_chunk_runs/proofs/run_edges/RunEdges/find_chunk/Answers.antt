use Rattle.std.proofs.Common.{arith}
use Rattle.std.proofs.lemmas.List.{length-map}
use Rattle.zarrs_chunk_runs.specs.Runs.{run_of}
use Rattle.zarrs_chunk_runs.proofs.Places.{length_chunk_ends, none_counted, run_found}
use Rattle.zarrs_chunk_runs.proofs.RunSums.{running_rises}
use Rattle.zarrs_chunk_runs.specs.seen.RunEdges.{runs_of}
use Rattle.zarrs_chunk_runs.proofs.run_edges.RunEdges.find_chunk.Goals as goal

pub first_greater-run-requires : goal.first_greater-run-requires
first_greater-run-requires c = rw (c.deref.ensures.value, c.args.self.now.counted) (running_rises _)

pub returns-then-run-len-clause-found : goal.returns-then-run-len-clause-found
returns-then-run-len-clause-found c =
    run_found _ _ _ (rw (c.deref.ensures.value, c.args.self.now.counted) at c.first_greater-run.ensures.first)
    (omega (arith, length-map c.args.self.now.runs.items run_of))

pub returns-else-run-len-clause-found : goal.returns-else-run-len-clause-found
returns-else-run-len-clause-found c =
    none_counted _ _ _ (rw (c.deref.ensures.value, c.args.self.now.counted) at c.first_greater-run.ensures.first)
    (omega (arith, length-map c.args.self.now.runs.items run_of))

pub returns-then-run-len-clause-counted : goal.returns-then-run-len-clause-counted
returns-then-run-len-clause-counted c =
    rw (c.deref.ensures.value, c.args.self.now.counted, length_chunk_ends (runs_of c.args.self.now)) at c.first_greater-run.ensures.counted

pub returns-else-run-len-clause-counted : goal.returns-else-run-len-clause-counted
returns-else-run-len-clause-counted c =
    rw (c.deref.ensures.value, c.args.self.now.counted, length_chunk_ends (runs_of c.args.self.now)) at c.first_greater-run.ensures.counted
