use Rattle.programs.proofs.chunkplan.Common.{◌≡◌, ◌∙◌, ◌∷◌, ◌+◌, ◌<◌, ◌≤◌, [], ap, arith, drop, get_or, length, map, map-append, non_zero_u64_get, suc}
use Rattle.programs.specs.chunkplan.Common.{grid_in}
use Rattle.std.proofs.lemmas.List.{drop_all}
use Rattle.zarrs_chunk_plan.specs.ArrayBoxes.{array_box}
use Rattle.programs.specs.chunkplan.seen.Opened.{array_in, dimensions_in}
use Rattle.programs.specs.chunkplan.seen.Routes.{intermediate_of, stage_of}
use Rattle.programs.proofs.chunkplan.RouteLists.{first_dropped, last_stage, one_more_stage}
use Rattle.programs.proofs.chunkplan.stages.stages_of.Goals as goal

pub loop-number-preserved : goal.loop-number-preserved
loop-number-preserved c =
    let route = c.args.found.now.route in
    let k = c.loop-number.number in
    let item = c.between-item.result in
    let within : k < length route.between.items = rw c.deref-between-items.ensures.value at c.loop-number-test.true in
    let is : item ≡ get_or route.between.items k item = rw c.deref-between-items.ensures.value at c.between-item.is in
    let long : length route.each.items ≡ suc (length route.between.items) = route.lengths in
    let each : c.index.result.now ≡ get_or route.each.items k c.index.result.now = c.index.ensures in
    let edges : c.deref.result.now ≡ c.index.result.now.items = c.deref.ensures.value in
    let shape : c.deref-in-loop-number.result.now ≡ item.chunk_shape.items = c.deref-in-loop-number.ensures.value in
    let whole : c.in_ok-whole.whole ≡ array_box (dimensions_in item.array.grid) = c.in_ok-whole.ensures.elements in
    let start : c.start.result.now ≡ c.in_ok-whole.whole.start = c.start.ensures.value in
    let copied : c.in_ok-to_vec.field-0.items ≡ c.start.result.now = c.in_ok-to_vec.ensures.items_if_clones_equal (λ x y same. same) in
    rw (c.in_ok-push.ensures.items, map-append stage_of c.loop-number.stages.items (_ ∷ []), edges, shape, c.left.view_is)
    (one_more_stage route.order (array_in c.loop-number.from.now) (array_in c.args.target.now) c.loop-number.left c.args.found.now.at.items
    (map intermediate_of (drop k route.between.items)) (map (λ each. map non_zero_u64_get each.items) (drop k route.each.items))
    (map stage_of c.loop-number.stages.items) _ c.loop-number.invariant (intermediate_of item) (map intermediate_of (drop (k + 1) route.between.items))
    (map non_zero_u64_get c.index.result.now.items) (map (λ each. map non_zero_u64_get each.items) (drop (k + 1) route.each.items))
    (first_dropped intermediate_of route.between.items k item within is)
    (first_dropped (λ each. map non_zero_u64_get each.items) route.each.items k c.index.result.now (omega (arith, within, long)) each) (array_in item.array)
    c.in_ok-whole.whole c.in_ok-to_vec.field-0.items (copied ∙ start) whole (ap (λ keys. (grid_in item.array.grid, keys)) item.keys))

pub returns : goal.returns
returns c =
    let route = c.args.found.now.route in
    let k = c.loop-number.number in
    let past : length route.between.items ≤ k = rw c.deref-between-items.ensures.value at c.loop-number-test.false in
    let before : k ≤ length route.between.items = rw c.deref-between-items.ensures.value at c.loop-number.auto.number-end in
    let here : k ≡ c.len-2.result =
    omega (arith, c.loop-number-test.false, c.loop-number.auto.number-end, c.len-2.ensures, c.deref-between-items.ensures.len) in
    let long : length route.each.items ≡ suc (length route.between.items) = route.lengths in
    let each : c.index-2.result.now ≡ get_or route.each.items c.len-2.result c.index-2.result.now = c.index-2.ensures in
    let edges : c.deref-3.result.now ≡ c.index-2.result.now.items = c.deref-3.ensures.value in
    let start : c.deref-2.result.now ≡ c.args.found.now.at.items = c.deref-2.ensures.value in
    let copied : c.in_ok-at.at.items ≡ c.deref-2.result.now = c.in_ok-at.ensures.items_if_clones_equal (λ x y same. same) in
    rw (c.in_ok-push-2.ensures.items, map-append stage_of c.loop-number.stages.items (_ ∷ []), edges, copied, start)
    (last_stage route.order (array_in c.loop-number.from.now) (array_in c.args.target.now) c.loop-number.left c.args.found.now.at.items
    (map intermediate_of (drop k route.between.items)) (map (λ each. map non_zero_u64_get each.items) (drop k route.each.items))
    (map stage_of c.loop-number.stages.items) _ c.loop-number.invariant (map non_zero_u64_get c.index-2.result.now.items)
    (map (λ each. map non_zero_u64_get each.items) (drop (k + 1) route.each.items)) (ap (map intermediate_of) (drop_all k route.between.items past))
    (first_dropped (λ each. map non_zero_u64_get each.items) route.each.items k c.index-2.result.now (omega (arith, past, before, long)) (rw (← here) at each)))
