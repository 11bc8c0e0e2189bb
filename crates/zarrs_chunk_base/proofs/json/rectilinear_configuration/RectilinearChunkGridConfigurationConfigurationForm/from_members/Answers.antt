use Rattle.std.proofs.Common.{[], ◌∷◌, codes, refl}
use Rattle.std.proofs.lemmas.Result.{err_from_is_err_and}
use Rattle.serde_json.specs.View.{members_view}
use Rattle.zarrs_chunk_base.specs.Configuration.{required}
use Rattle.zarrs_chunk_base.specs.GridConfigurations.{inline_in, lengths_in}
use Rattle.zarrs_chunk_base.specs.Json.{list_of}
use Rattle.zarrs_chunk_base.proofs.FirstMembers.{first_wrong, later_wrong}
use Rattle.zarrs_chunk_base.proofs.Refusals.{refused_weaker}
use Rattle.zarrs_chunk_base.proofs.json.rectilinear_configuration.RectilinearChunkGridConfigurationConfigurationForm.from_members.Goals as goal

pub returns-in_err-chunk_shapes : goal.returns-in_err-chunk_shapes
returns-in_err-chunk_shapes c =
    let p = err_from_is_err_and c.from_residual.result c.from_residual.ensures.1 in
    let members = members_view c.args.members.now.entries in
    let shapes = required (codes "chunk_shapes") (list_of lengths_in) in
    let kind = required (codes "kind") inline_in in
    rw (p.1, p.2) (refused_weaker _ _ _ c.in_err-chunk_shapes.ensures (first_wrong (list_of lengths_in) shapes (kind ∷ []) members (λ d. refl)))

pub returns-in_err-required_value : goal.returns-in_err-required_value
returns-in_err-required_value c =
    let p = err_from_is_err_and c.from_residual-in_err-required_value.result c.from_residual-in_err-required_value.ensures.1 in
    let members = members_view c.args.members.now.entries in
    let shapes = required (codes "chunk_shapes") (list_of lengths_in) in
    let kind = required (codes "kind") inline_in in
    rw (p.1, p.2) (refused_weaker _ _ _ c.in_err-required_value.ensures
    (λ fault wrong. later_wrong (list_of lengths_in) shapes (kind ∷ []) members (λ d. refl) _ c.in_ok-chunk_shapes.ensures fault
    (first_wrong inline_in kind [] members (λ d. refl) fault wrong)))
