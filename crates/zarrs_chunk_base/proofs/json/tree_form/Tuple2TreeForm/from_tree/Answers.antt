use Rattle.std.proofs.Common.{◌≢◌, length, ap, ◌∙◌, arith}
use Rattle.std.specs.Prelude.{option_and_then}
use Rattle.zarrs_chunk_base.specs.Json.{both_of}
use Rattle.zarrs_chunk_base.proofs.Trees.{no_pair}
use Rattle.zarrs_chunk_base.proofs.json.tree_form.Tuple2TreeForm.from_tree.Goals as goal

pub returns-in_default-as_slice : goal.returns-in_default-as_slice
returns-in_default-as_slice g c =
    let other : length c.in-Some.elements.now.items ≢ 2 = grind arith in
    no_pair g.T.TreeForm.form c.in-Some.elements.now.items other ∙ ap (option_and_then (both_of g.T.TreeForm.form)) c.in-Some.ensures
