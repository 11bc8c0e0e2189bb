use Rattle.std.proofs.Common.{◌<◌, length, ap, ◌∙◌, subst, arith}
use Rattle.std.specs.List.{AllZip}
use Rattle.std.proofs.lemmas.List.{take_more, take_all}
use Rattle.serde_json.specs.Data.{array}
use Rattle.serde_json.proofs.Views.{view-Array}
use Rattle.zarrs_chunk_base.specs.Json.{list_of}
use Rattle.zarrs_chunk_base.proofs.Trees.{IsTreeOf, items_are, items_stand_for, one_more}
use Rattle.zarrs_chunk_base.proofs.json.tree_form.write_list.Goals as goal

pub loop-value-preserved : goal.loop-value-preserved
loop-value-preserved g c =
    let all = c.args.values.now in
    let k = c.loop-value.value-index in
    let within : k < length all = omega arith in
    rw (c.in_ok-push.ensures.items, take_more all k c.value-item.result within, ← c.value-item.is)
    (one_more g.T.TreeForm.seen g.T.TreeForm.form g.T.TreeForm.written _ _ _ _ c.loop-value.invariant
    (c.in_ok-to_tree.ensures.tree, c.in_ok-to_tree.ensures.reads_back))

pub returns-clause-tree : goal.returns-clause-tree
returns-clause-tree g c =
    let trees = c.loop-value.trees in
    let values = c.args.values.now in
    let all = subst (AllZip (IsTreeOf g.T.TreeForm.seen g.T.TreeForm.form g.T.TreeForm.written) trees.items)
    (take_all c.loop-value.value-index values (omega arith)) c.loop-value.invariant in
    view-Array trees ∙ ap array (items_are g.T.TreeForm.seen g.T.TreeForm.form g.T.TreeForm.written trees.items values all)

pub returns-clause-reads_back : goal.returns-clause-reads_back
returns-clause-reads_back g c =
    let trees = c.loop-value.trees in
    let values = c.args.values.now in
    let all = subst (AllZip (IsTreeOf g.T.TreeForm.seen g.T.TreeForm.form g.T.TreeForm.written) trees.items)
    (take_all c.loop-value.value-index values (omega arith)) c.loop-value.invariant in
    ap (list_of g.T.TreeForm.form) (view-Array trees)
    ∙ items_stand_for g.T.TreeForm.seen g.T.TreeForm.form g.T.TreeForm.written trees.items values all
