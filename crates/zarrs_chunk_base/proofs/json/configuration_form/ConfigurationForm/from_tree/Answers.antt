use Rattle.std.proofs.Common.{IsSome, subst}
use Rattle.std.specs.List.{AllByRecursion}
use Rattle.std.proofs.lemmas.Result.{MatchResult-weaker, err_from_is_err_and}
use Rattle.serde_json.specs.Find.{get_member}
use Rattle.serde_json.specs.View.{members_view}
use Rattle.zarrs_chunk_base.specs.Configuration.{HasNoUnknown, HasRequired, IsConfigurationFault, names_of, required_names_of}
use Rattle.zarrs_chunk_base.specs.Refusal.{OrMemory}
use Rattle.zarrs_chunk_base.specs.lemmas.Members.{IsFirstMissing}
use Rattle.zarrs_chunk_base.proofs.FirstMembers.{missing_is_first, wrong_is_first}
use Rattle.zarrs_chunk_base.proofs.Refusals.{refused_weaker}
use Rattle.zarrs_chunk_base.proofs.json.configuration_form.ConfigurationForm.from_tree.Goals as goal

pub returns-in_err-refuse_missing : goal.returns-in_err-refuse_missing
returns-in_err-refuse_missing g c =
    let table = g.Self.ConfigurationForm.table in
    let members = members_view c.args.members.now.entries in
    let p = err_from_is_err_and c.from_residual-in_err-refuse_missing.result c.from_residual-in_err-refuse_missing.ensures.1 in
    let known : HasNoUnknown (names_of table.members) members =
    subst (λ names. HasNoUnknown names members) c.names-table.ensures.known c.in_ok-refuse_unknown.ensures in
    rw (p.1, p.2)
    (refused_weaker c.in_err-refuse_missing.field-0.0 (IsFirstMissing (required_names_of table.members) members) (IsConfigurationFault table members)
    (subst (λ names. OrMemory (IsFirstMissing names members) c.in_err-refuse_missing.field-0.0) c.names-table.ensures.required
    c.in_err-refuse_missing.ensures)
    (λ fault first. missing_is_first table members fault g.met.Self.ConfigurationForm.in_order known first))

pub from_members-requires : goal.from_members-requires
from_members-requires g c =
    subst (AllByRecursion (λ name. IsSome (get_member name (members_view c.args.members.now.entries)))) c.names-table.ensures.required
    c.in_ok-refuse_missing.ensures

pub returns : goal.returns
returns g c =
    let table = g.Self.ConfigurationForm.table in
    let members = members_view c.args.members.now.entries in
    let known : HasNoUnknown (names_of table.members) members =
    subst (λ names. HasNoUnknown names members) c.names-table.ensures.known c.in_ok-refuse_unknown.ensures in
    let there : HasRequired table.members members =
    subst (AllByRecursion (λ name. IsSome (get_member name members))) c.names-table.ensures.required c.in_ok-refuse_missing.ensures in
    MatchResult-weaker c.from_members.result c.from_members.ensures (λ x is. (known, is))
    (λ refusal first. refused_weaker refusal _ _ first
    (λ fault wrong. wrong_is_first table members fault g.met.Self.ConfigurationForm.in_order known there wrong))
