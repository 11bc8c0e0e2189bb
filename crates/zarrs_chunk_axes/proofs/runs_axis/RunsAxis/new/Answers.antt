use Rattle.zarrs_chunk_axes.proofs.runs_axis.RunsAxis.new.Goals as goal

pub invariant_of-result : goal.invariant_of-result
invariant_of-result c = record { covers = rw c.in-Ok.ensures.edges c.requires.1 }
