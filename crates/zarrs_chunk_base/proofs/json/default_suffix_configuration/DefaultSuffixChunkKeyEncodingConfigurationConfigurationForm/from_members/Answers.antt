use Rattle.std.proofs.Common.{[], ◌∷◌, codes, refl}
use Rattle.std.proofs.lemmas.Result.{err_from_is_err_and}
use Rattle.serde_json.specs.Find.{as_str}
use Rattle.serde_json.specs.View.{members_view}
use Rattle.zarrs_chunk_base.specs.declared.chunk_key_separator.ChunkKeySeparator.TheVariants.{Slash}
use Rattle.zarrs_chunk_base.specs.Configuration.{optional, required}
use Rattle.zarrs_chunk_base.specs.KeyConfigurations.{separator_in}
use Rattle.zarrs_chunk_base.proofs.FirstMembers.{first_wrong, later_wrong_or}
use Rattle.zarrs_chunk_base.proofs.Refusals.{refused_weaker}
use Rattle.zarrs_chunk_base.proofs.json.default_suffix_configuration.DefaultSuffixChunkKeyEncodingConfigurationConfigurationForm.from_members.Goals
    as goal

pub returns-in_err-separator : goal.returns-in_err-separator
returns-in_err-separator c =
    let p = err_from_is_err_and c.from_residual.result c.from_residual.ensures.1 in
    let separator = optional (codes "separator") separator_in in
    let suffix = required (codes "suffix") as_str in
    rw (p.1, p.2) (refused_weaker _ _ _ c.in_err-separator.ensures
    (first_wrong separator_in separator (suffix ∷ []) (members_view c.args.members.now.entries) (λ d. refl)))

pub returns-in_err-suffix : goal.returns-in_err-suffix
returns-in_err-suffix c =
    let p = err_from_is_err_and c.from_residual-in_err-suffix.result c.from_residual-in_err-suffix.ensures.1 in
    let members = members_view c.args.members.now.entries in
    let separator = optional (codes "separator") separator_in in
    let suffix = required (codes "suffix") as_str in
    rw (p.1, p.2) (refused_weaker _ _ _ c.in_err-suffix.ensures
    (λ fault wrong. later_wrong_or separator_in separator (suffix ∷ []) members (λ d. refl) Slash _ c.in_ok-separator.ensures fault
    (first_wrong as_str suffix [] members (λ d. refl) fault wrong)))
