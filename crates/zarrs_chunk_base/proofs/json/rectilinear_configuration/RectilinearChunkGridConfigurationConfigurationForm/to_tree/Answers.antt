use Rattle.std.proofs.Common.{refl, rules}
use Rattle.zarrs_chunk_base.proofs.KnownNames.{reads_back}
use Rattle.zarrs_chunk_base.specs.GridConfigurations.{rectilinear_members, rectilinear_table, rectilinear_value, rectilinear_lengths}
use Rattle.zarrs_chunk_base.proofs.json.rectilinear_configuration.RectilinearChunkGridConfigurationConfigurationForm.to_tree.Goals as goal

pub returns-clause-reads_back : goal.returns-clause-reads_back
returns-clause-reads_back c =
    let lengths = rectilinear_lengths c.args.self.now in
    reads_back rectilinear_table rectilinear_value _ (rectilinear_members lengths) lengths (search rules) refl (search rules)
