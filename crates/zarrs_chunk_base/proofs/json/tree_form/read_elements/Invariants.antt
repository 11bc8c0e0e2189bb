use Rattle.std.proofs.Common.{◌≡◌, ◌++◌, drop, length, map, option_map, take}
use Rattle.serde_json.specs.View.{items_view}
use Rattle.zarrs_chunk_base.specs.Json.{each_of}
use Rattle.zarrs_chunk_base.proofs.json.tree_form.read_elements.Given as goal

-- the values so far, and then those of the elements that are left, are those from before and then those of all elements; the values from
-- before stand in front
abbrev pub invariant-loop-element : goal.invariant-loop-element
invariant-loop-element g l =
    let form = g.T.TreeForm.form in
    let before = map g.T.TreeForm.seen l.fn.values.items in
    let so_far = map g.T.TreeForm.seen l.values.items in
    (option_map (λ rest. before ++ rest) (each_of form (items_view l.elements))
    ≡ option_map (λ rest. so_far ++ rest) (each_of form (items_view (drop l.element-index l.elements))))
    × (take (length l.fn.values.items) l.values.items ≡ l.fn.values.items)
