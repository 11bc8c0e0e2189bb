use Rattle.std.proofs.Common.{take}
use Rattle.std.specs.List.{AllZip}
use Rattle.zarrs_chunk_base.proofs.Trees.{IsTreeOf}
use Rattle.zarrs_chunk_base.proofs.json.tree_form.write_list.Given as goal

-- the trees so far are those of the values so far
abbrev pub invariant-loop-value : goal.invariant-loop-value
invariant-loop-value g l =
    AllZip (IsTreeOf g.T.TreeForm.seen g.T.TreeForm.form g.T.TreeForm.written) l.trees.items (take l.value-index l.values)
