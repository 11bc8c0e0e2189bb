use Rattle.std.proofs.Common.{map, refl, rules}
use Rattle.std.specs.Int.NonZero.{non_zero_u64_get}
use Rattle.serde_json.specs.View.{members_view}
use Rattle.zarrs_chunk_base.proofs.KnownNames.{reads_back}
use Rattle.zarrs_chunk_base.specs.GridConfigurations.{regular_members, regular_table, regular_value}
use Rattle.zarrs_chunk_base.proofs.json.regular_configuration.RegularChunkGridConfigurationConfigurationForm.to_tree.Goals as goal

pub returns-clause-reads_back : goal.returns-clause-reads_back
returns-clause-reads_back c =
    let edges = map non_zero_u64_get c.args.self.now.chunk_shape.items in
    reads_back regular_table regular_value (members_view c.put.new.map.entries) (regular_members edges) edges (search rules) refl (search rules)
