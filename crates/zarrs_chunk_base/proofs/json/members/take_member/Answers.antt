use Rattle.std.proofs.Common.{ap, option_map, sym, ◌∙◌}
use Rattle.serde_json.specs.View.{members_view, view}
use Rattle.serde_json.proofs.Views.{view-Object, view-lookup}
use Rattle.zarrs_chunk_base.proofs.TakenMembers.{in_members, others_stay}
use Rattle.zarrs_chunk_base.proofs.json.members.take_member.Goals as goal

pub returns-clause-taken : goal.returns-clause-taken
returns-clause-taken c =
    let name = c.args.name.now in
    let members = c.in_ok-as_object_mut.field-0.now.entries in
    ap (option_map view) c.remove.ensures.value ∙ view-lookup name members
    ∙ sym (in_members (view c.args.tree.now) (members_view members) name c.in_ok-as_object_mut.ensures.value)

pub returns-clause-gone : goal.returns-clause-gone
returns-clause-gone c =
    rw (view-Object c.remove.new.self)
    (sym (view-lookup c.args.name.now c.remove.new.self.entries) ∙ ap (option_map view) c.remove.ensures.updates.1)

pub returns-clause-others : goal.returns-clause-others
returns-clause-others c = λ other differs.
    let members = c.in_ok-as_object_mut.field-0.now.entries in
    rw (view-Object c.remove.new.self, c.remove.ensures.entries)
    (others_stay c.args.name.now other members differs
    ∙ sym (in_members (view c.args.tree.now) (members_view members) other c.in_ok-as_object_mut.ensures.value))
