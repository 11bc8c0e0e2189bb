use Rattle.std.proofs.Common.{[], codes, refl}
use Rattle.std.proofs.lemmas.Result.{err_from_is_err_and}
use Rattle.serde_json.specs.View.{members_view}
use Rattle.zarrs_chunk_base.specs.Configuration.{required}
use Rattle.zarrs_chunk_base.specs.GridConfigurations.{dimension_edges_of}
use Rattle.zarrs_chunk_base.specs.Json.{list_of}
use Rattle.zarrs_chunk_base.proofs.FirstMembers.{first_wrong}
use Rattle.zarrs_chunk_base.proofs.Refusals.{refused_weaker}
use Rattle.zarrs_chunk_base.proofs.json.rectangular_configuration.RectangularChunkGridConfigurationConfigurationForm.from_members.Goals as goal

pub returns-in_err-required_value : goal.returns-in_err-required_value
returns-in_err-required_value c =
    let p = err_from_is_err_and c.from_residual.result c.from_residual.ensures.1 in
    let form = list_of dimension_edges_of in
    rw (p.1, p.2) (refused_weaker _ _ _ c.in_err-required_value.ensures
    (first_wrong form (required (codes "chunk_shape") form) [] (members_view c.args.members.now.entries) (λ d. refl)))
