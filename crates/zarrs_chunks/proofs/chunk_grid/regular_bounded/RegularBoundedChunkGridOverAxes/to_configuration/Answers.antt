use Rattle.std.proofs.Common.{map, ◌∙◌, sym}
use Rattle.std.specs.Int.NonZero.{non_zero_u64_get}
use Rattle.std.proofs.lemmas.Simd.{map-map}
use Rattle.serde_json.specs.View.{members_view}
use Rattle.zarrs_chunk_base.specs.DimensionEdges.{equal}
use Rattle.zarrs_chunk_axes.specs.Bounded.{IsBoundedBy}
use Rattle.zarrs_chunks.specs.GridKinds.{grid_kind, regular_bounded}
use Rattle.zarrs_chunks.proofs.Configured.{is_written, of_one_edge, told_lengths}
use Rattle.zarrs_chunks.proofs.SeenGrids.{regular_bounded_made}
use Rattle.zarrs_chunks.proofs.chunk_grid.regular_bounded.RegularBoundedChunkGridOverAxes.to_configuration.Goals as goal

pub returns : goal.returns
returns c =
    let edges = c.in_ok-configurations.field-0.items in
    let told = c.in_ok-configurations.ensures.edges in
    let same = sym (map-map equal non_zero_u64_get edges ∙ told) in
    is_written (grid_kind regular_bounded) (λ m. members_view m.entries) c.to_tree.result _ _
    (map non_zero_u64_get edges) c.to_tree.ensures.members c.to_tree.ensures.reads_back
    (told_lengths _ _ edges _ told) (of_one_edge IsBoundedBy _ _ _ _ (regular_bounded_made c.args.self.now) same, same) tt
