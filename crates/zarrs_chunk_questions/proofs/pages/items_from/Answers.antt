use Rattle.std.proofs.Common.{◌≡◌, ◌∙◌, ◌++◌, append-nil, ap, arith, length, map, option_to_list, rules, sym}
use Rattle.std.proofs.lemmas.List.{length-map}
use Rattle.serde_json.specs.View.{view}
use Rattle.zarrs_chunk_questions.proofs.WalkPages.{counted_all, items_more, one_pushed, too_many_items}
use Rattle.zarrs_chunk_questions.proofs.pages.items_from.Goals.{in-Some+in_ok-push, in_default}
use Rattle.zarrs_chunk_questions.proofs.pages.items_from.Goals as goal

pub returns-then-is_too_many : goal.returns-then-is_too_many
returns-then-is_too_many g c =
    let ds = g.G.ChunkGridTraits.dimensions c.args.grid.now in
    let walk = c.args.walk in
    let first = c.args.first in
    let limits = c.args.limits.now in
    let passed = c.loop-passed.passed in
    let items = c.loop-passed.items.items in
    let found = c.in_ok-item.field-0 in
    let (few, same) = c.loop-passed.invariant in
    let below = c.loop-passed-test.true in
    let all = counted_all ds c.in_ok-chunks.chunks.shape c.count_below-in_all.result (ap (λ b. b.shape) c.in_ok-chunks.ensures.counted)
    (rw c.shape.ensures.value at c.count_below-in_all.ensures)
    in
    let now : c.match-branch-3.items.items ≡ items ++ option_to_list found =
    elim c.match-branch-3.branch [
      | in-Some+in_ok-push w ↦ ap (λ v. v.items) w.items-is ∙ w.in_ok-push.ensures.items ∙ sym (ap (λ o. items ++ option_to_list o) w.in-Some.is)
      | in_default w ↦ ap (λ v. v.items) w.items-is ∙ sym (append-nil items) ∙ sym (ap (λ o. items ++ option_to_list o) w.in_default.is)
    ]
    in
    let more = one_pushed items c.match-branch-3.items.items found _ _ same c.in_ok-item.ensures now ∙ sym (items_more walk ds first passed (omega arith)) in
    let counted : c.len.result ≡ length c.match-branch-3.items.items = search rules in
    let full : c.len.result ≡ limits.too_many = search rules in
    too_many_items walk ds first limits.most passed c.len.result limits.too_many (map view c.match-branch-3.items.items) (omega arith) more
    (counted ∙ sym (length-map c.match-branch-3.items.items view)) full

pub loop-passed-preserved : goal.loop-passed-preserved
loop-passed-preserved g c =
    let ds = g.G.ChunkGridTraits.dimensions c.args.grid.now in
    let walk = c.args.walk in
    let first = c.args.first in
    let passed = c.loop-passed.passed in
    let items = c.loop-passed.items.items in
    let found = c.in_ok-item.field-0 in
    let (few, same) = c.loop-passed.invariant in
    let below = c.loop-passed-test.true in
    let all = counted_all ds c.in_ok-chunks.chunks.shape c.count_below-in_all.result (ap (λ b. b.shape) c.in_ok-chunks.ensures.counted)
    (rw c.shape.ensures.value at c.count_below-in_all.ensures)
    in
    let now : c.match-branch-3.items.items ≡ items ++ option_to_list found =
    elim c.match-branch-3.branch [
      | in-Some+in_ok-push w ↦ ap (λ v. v.items) w.items-is ∙ w.in_ok-push.ensures.items ∙ sym (ap (λ o. items ++ option_to_list o) w.in-Some.is)
      | in_default w ↦ ap (λ v. v.items) w.items-is ∙ sym (append-nil items) ∙ sym (ap (λ o. items ++ option_to_list o) w.in_default.is)
    ]
    in (
      omega arith,
      one_pushed items c.match-branch-3.items.items found _ _ same c.in_ok-item.ensures now
          ∙ sym (items_more walk ds first passed (omega arith)),
    )
