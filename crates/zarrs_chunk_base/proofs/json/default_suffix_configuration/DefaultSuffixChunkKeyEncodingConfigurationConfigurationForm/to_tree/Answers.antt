use Rattle.std.proofs.Common.{refl, rules}
use Rattle.zarrs_chunk_base.proofs.KnownNames.{reads_back}
use Rattle.zarrs_chunk_base.specs.KeyConfigurations.{suffix_configuration_of, suffix_members, suffix_table, suffix_value}
use Rattle.zarrs_chunk_base.proofs.json.default_suffix_configuration.DefaultSuffixChunkKeyEncodingConfigurationConfigurationForm.to_tree.Goals as goal

pub returns-clause-reads_back : goal.returns-clause-reads_back
returns-clause-reads_back c =
    let suffixed = suffix_configuration_of c.args.self.now in
    reads_back suffix_table suffix_value _ (suffix_members suffixed) suffixed (search rules) refl (search rules)
