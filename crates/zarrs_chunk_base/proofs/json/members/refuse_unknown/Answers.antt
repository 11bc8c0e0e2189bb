use Rattle.std.proofs.Common.{refl, sym, subst, ◌∙◌}
use Rattle.zarrs_chunk_base.specs.Configuration.{IsLeastName, IsUnknown}
use Rattle.serde_json.specs.View.{members_view}
use Rattle.zarrs_chunk_base.proofs.KnownNames.{texts, none_unknown, first_unknown}
use Rattle.zarrs_chunk_base.proofs.json.members.refuse_unknown.Goals as goal

pub returns-in_default : goal.returns-in_default
returns-in_default c = none_unknown c.args.known.now c.args.members.now.entries (sym c.in_default.ensures.first)

-- the fault's text is the name that was found
pub returns : goal.returns
returns c = (
  subst (IsLeastName (IsUnknown (texts c.args.known.now) (members_view c.args.members.now.entries)))
      (sym (c.in_ok-from_str.ensures.ok ∙ c.as_str.ensures.value))
      (first_unknown c.args.known.now c.args.members.now.entries c.in-Some.name.now c.first_unknown.ensures.ordered (sym c.in-Some.ensures.first)),
  refl,
)
