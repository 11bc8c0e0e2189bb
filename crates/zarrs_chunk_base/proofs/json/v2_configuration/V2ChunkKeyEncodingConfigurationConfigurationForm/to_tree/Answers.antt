use Rattle.std.proofs.Common.{refl, rules}
use Rattle.serde_json.specs.View.{members_view}
use Rattle.zarrs_chunk_base.proofs.KnownNames.{reads_back_if_ok}
use Rattle.zarrs_chunk_base.specs.KeyConfigurations.{separator_members, separator_table, v2_value}
use Rattle.zarrs_chunk_base.proofs.json.v2_configuration.V2ChunkKeyEncodingConfigurationConfigurationForm.to_tree.Goals as goal

pub returns-clause-reads_back : goal.returns-clause-reads_back
returns-clause-reads_back c =
    let separator = c.args.self.now.separator in
    reads_back_if_ok separator_table v2_value (λ m. members_view m.entries) c.with_separator.result
    (separator_members separator) separator c.with_separator.ensures refl (search rules)
