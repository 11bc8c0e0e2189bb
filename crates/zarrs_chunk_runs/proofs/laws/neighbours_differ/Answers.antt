use Rattle.zarrs_chunk_runs.proofs.laws.neighbours_differ.Goals as goal

pub returns : goal.returns
returns c edges = edges.merged
