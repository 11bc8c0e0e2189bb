use Rattle.std.proofs.Common.{sym, ◌∙◌}
use Rattle.zarrs_chunk_runs.proofs.Places.{edge_found}
use Rattle.zarrs_chunk_runs.proofs.run_edges.RunEdges.edge.Goals as goal

pub returns : goal.returns
returns c =
    let (run, is_run, place) = c.in_ok-place_of_chunk.ensures in
    let (within, edge) = edge_found _ _ run is_run in
    (within, edge ∙ sym place.edge)
