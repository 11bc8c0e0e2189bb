use Rattle.std.proofs.Common.{[], codes, refl}
use Rattle.std.proofs.lemmas.Result.{err_from_is_err_and}
use Rattle.serde_json.specs.View.{members_view}
use Rattle.zarrs_chunk_base.specs.Configuration.{optional}
use Rattle.zarrs_chunk_base.specs.KeyConfigurations.{separator_in}
use Rattle.zarrs_chunk_base.proofs.FirstMembers.{first_wrong}
use Rattle.zarrs_chunk_base.proofs.Refusals.{refused_weaker}
use Rattle.zarrs_chunk_base.proofs.json.default_configuration.DefaultChunkKeyEncodingConfigurationConfigurationForm.from_members.Goals as goal

pub returns-in_err-separator : goal.returns-in_err-separator
returns-in_err-separator c =
    let p = err_from_is_err_and c.from_residual.result c.from_residual.ensures.1 in
    rw (p.1, p.2) (refused_weaker _ _ _ c.in_err-separator.ensures
    (first_wrong separator_in (optional (codes "separator") separator_in) [] (members_view c.args.members.now.entries) (λ d. refl)))
