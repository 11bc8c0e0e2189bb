use Rattle.zarrs_chunk_axes.proofs.runs_axis.RunsAxisAxis.clone.Goals as goal

pub invariant_of-result : goal.invariant_of-result
invariant_of-result c = record { covers = rw c.in_ok-clone.ensures c.args.self.now.covers }
