use Rattle.std.proofs.Common.{map, sym, subst}
use Rattle.serde_json.specs.View.{members_view}
use Rattle.zarrs_chunk_base.specs.DimensionEdges.{rectangular_edges}
use Rattle.zarrs_chunk_axes.specs.EqualOrListed.{AreEqualOrListed}
use Rattle.zarrs_chunk_axes.specs.Rectangular.{AreRectangular}
use Rattle.zarrs_chunks.specs.GridKinds.{grid_kind, rectangular}
use Rattle.zarrs_chunks.proofs.Configured.{is_written}
use Rattle.zarrs_chunks.proofs.SeenGrids.{rectangular_made}
use Rattle.zarrs_chunks.proofs.chunk_grid.rectangular.RectangularChunkGridOverAxes.to_configuration.Goals as goal

pub returns : goal.returns
returns c =
    let edges = c.in_ok-configurations.field-0.items in
    let told = sym c.in_ok-configurations.ensures.edges in
    is_written (grid_kind rectangular) (λ m. members_view m.entries) c.to_tree.result _ _
    (map rectangular_edges edges) c.to_tree.ensures.members c.to_tree.ensures.reads_back
    (subst (AreRectangular _) told c.args.self.now.accepted) (subst (AreEqualOrListed _ _) told (rectangular_made c.args.self.now), told) tt
