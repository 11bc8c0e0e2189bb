use Rattle.std.proofs.Common.{map, ◌∙◌, sym, subst}
use Rattle.std.proofs.lemmas.Simd.{map-map}
use Rattle.serde_json.specs.View.{members_view}
use Rattle.zarrs_chunk_base.specs.RunLength.{IsWrittenLengths, edges_of_lengths, lengths_of}
use Rattle.zarrs_chunk_axes.specs.EqualOrListed.{AreEqualOrListed}
use Rattle.zarrs_chunk_axes.specs.Rectilinear.{AreRectilinear}
use Rattle.zarrs_chunks.specs.GridKinds.{grid_kind, rectilinear}
use Rattle.zarrs_chunks.proofs.Configured.{all_seen, is_written}
use Rattle.zarrs_chunks.proofs.SeenGrids.{rectilinear_made}
use Rattle.zarrs_chunks.proofs.chunk_grid.rectilinear.RectilinearChunkGridOverAxes.to_configuration.Goals as goal

pub returns : goal.returns
returns c =
    let lengths = c.in_ok-configurations.field-0.items in
    let told = sym (map-map edges_of_lengths lengths_of lengths ∙ c.in_ok-configurations.ensures.edges) in
    is_written (grid_kind rectilinear) (λ m. members_view m.entries) c.to_tree.result _ _
    (map lengths_of lengths) c.to_tree.ensures.members c.to_tree.ensures.reads_back
    (subst (AreRectilinear _) told c.args.self.now.accepted) (subst (AreEqualOrListed _ _) told (rectilinear_made c.args.self.now), told)
    (all_seen lengths_of IsWrittenLengths lengths c.in_ok-configurations.ensures.written)
