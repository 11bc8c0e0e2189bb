use Rattle.std.proofs.Common.{[], codes, refl}
use Rattle.std.proofs.lemmas.Result.{err_from_is_err_and}
use Rattle.serde_json.specs.View.{members_view}
use Rattle.zarrs_chunk_base.specs.Configuration.{required}
use Rattle.zarrs_chunk_base.specs.Json.{edge_of, list_of}
use Rattle.zarrs_chunk_base.proofs.FirstMembers.{first_wrong}
use Rattle.zarrs_chunk_base.proofs.Refusals.{refused_weaker}
use Rattle.zarrs_chunk_base.proofs.json.regular_configuration.RegularChunkGridConfigurationConfigurationForm.from_members.Goals as goal

pub returns-in_err-required_value : goal.returns-in_err-required_value
returns-in_err-required_value c =
    let p = err_from_is_err_and c.from_residual.result c.from_residual.ensures.1 in
    rw (p.1, p.2) (refused_weaker _ _ _ c.in_err-required_value.ensures
    (first_wrong (list_of edge_of) (required (codes "chunk_shape") (list_of edge_of)) [] (members_view c.args.members.now.entries) (λ d. refl)))
