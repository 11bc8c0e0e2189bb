use Rattle.std.proofs.Common.{◌<◌, ◌≤◌, length, sym, ◌∙◌, arith}
use Rattle.serde_json.specs.View.{view}
use Rattle.zarrs_chunk_base.specs.Json.{list_of, size_of}
use Rattle.documents.proofs.chunkwhere.IndexLists.{IsIndexList, all_are, indices_are, no_list, one_is_not, one_more}
use Rattle.documents.proofs.chunkwhere.document.take_indices.Goals as goal

pub loop-list-preserved : goal.loop-list-preserved
loop-list-preserved c =
    let trees = c.deref-list-items.result.now in
    let within : c.loop-list.list-index < length trees = omega arith in
    let is : IsIndexList c.list-item.result = sym c.in_ok-read_list.ensures.is_list ∙ c.if-not-branch.false in
    one_more trees c.loop-list.list-index c.list-item.result within c.list-item.is is c.loop-list.invariant

pub returns-then-not-branch : goal.returns-then-not-branch
returns-then-not-branch c =
    let trees = c.deref-list-items.result.now in
    let within : c.loop-list.list-index < length trees = omega arith in
    let none = no_list (list_of size_of (view c.list-item.result)) (sym c.in_ok-read_list.ensures.is_list ∙ c.if-not-branch.true) in
    sym (indices_are (view c.args.tree) c.in-Some.indices.now c.in-Array.lists c.in-Some.ensures c.in-Array.ensures.taken
    ∙ rw c.deref-list-items.ensures.value at (one_is_not trees c.loop-list.list-index c.list-item.result within c.list-item.is none))

pub returns : goal.returns
returns c =
    let trees = c.deref-list-items.result.now in
    let past : length trees ≤ c.loop-list.list-index = omega arith in
    let all = rw c.deref-list-items.ensures.value at (all_are trees c.loop-list.list-index past c.loop-list.invariant) in
    sym (indices_are (view c.args.tree) c.in-Some.indices.now c.in-Array.lists c.in-Some.ensures c.in-Array.ensures.taken ∙ all)
