use Rattle.std.proofs.Common.{rules}
use Rattle.serde_json.proofs.Views.{view-Object}
use Rattle.zarrs_chunk_base.proofs.json.metadata_v3.take_configuration.Goals as goal

pub returns-in-Some-Object : goal.returns-in-Some-Object
returns-in-Some-Object c = search (rules, view-Object)
