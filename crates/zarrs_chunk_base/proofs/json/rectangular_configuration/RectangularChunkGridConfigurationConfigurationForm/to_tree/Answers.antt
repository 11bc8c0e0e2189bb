use Rattle.std.proofs.Common.{map, refl, rules}
use Rattle.serde_json.specs.View.{members_view}
use Rattle.zarrs_chunk_base.proofs.KnownNames.{reads_back}
use Rattle.zarrs_chunk_base.specs.DimensionEdges.{rectangular_edges}
use Rattle.zarrs_chunk_base.specs.GridConfigurations.{rectangular_members, rectangular_table, rectangular_value}
use Rattle.zarrs_chunk_base.proofs.json.rectangular_configuration.RectangularChunkGridConfigurationConfigurationForm.to_tree.Goals as goal

pub returns-clause-reads_back : goal.returns-clause-reads_back
returns-clause-reads_back c =
    let edges = map rectangular_edges c.args.self.now.chunk_shape.items in
    reads_back rectangular_table rectangular_value (members_view c.put.new.map.entries) (rectangular_members edges) edges
    (search rules) refl (search rules)
