use Rattle.std.proofs.Common.{rules}
use Rattle.zarrs_chunk_base.specs.Metadata.{object}
use Rattle.zarrs_chunk_base.proofs.json.metadata_v3.checked_name.Goals as goal

pub returns : goal.returns
returns c =
    let must_understand = c.in_ok-check_must_understand.ensures in
    object must_understand.0 (search rules) c.in_ok-check_configuration.ensures must_understand.1
