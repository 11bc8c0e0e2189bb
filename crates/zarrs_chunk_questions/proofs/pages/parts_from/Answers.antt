use Rattle.std.proofs.Common.{◌≡◌, ◌≢◌, ◌∙◌, Ok, ap, inl, length, map, rules}
use Rattle.serde_json.specs.View.{view}
use Rattle.serde_json.specs.declared.value.Value.{the_lemmas}
use Rattle.zarrs_chunk_keys.proofs.OneKey.{has_key}
use Rattle.zarrs_chunk_keys.specs.ChunkKey.{IsKey}
use Rattle.zarrs_chunk_keys.specs.seen.Encodings.{encoding_in}
use Rattle.zarrs_chunks.specs.seen.Grids.{chained_in, grid_in}
use Rattle.zarrs_chunk_plan.proofs.Plans.{none_found}
use Rattle.zarrs_chunk_questions.specs.Pages.{part_tree}
use Rattle.zarrs_chunk_questions.proofs.Refusals.{handed_on}
use Rattle.zarrs_chunk_questions.proofs.SomeItems.{long_page_of, no_parts, parts_page}
use Rattle.zarrs_chunk_questions.proofs.pages.parts_from.Goals as goal

pub returns-in_err-some : goal.returns-in_err-some
returns-in_err-some c =
    let told = c.some_parts.ensures in
    handed_on _ _ _ c.from_residual.result c.in_err-some.field-0.0
    (λ fault. no_parts (grid_in c.args.grid.now).dimensions c.args.elements.now c.some_parts.result fault told.empty told.answers)
    c.in_err-some.ensures.refused c.from_residual.ensures.1

pub returns-in_default : goal.returns-in_default
returns-in_default c =
    let told = c.some_parts.ensures in
    inl (
      search (rules, the_lemmas),
      none_found (grid_in c.args.grid.now).dimensions c.args.elements.now c.some_parts.result (c.in_ok-some.ensures.found ∙ ap Ok c.in_default.is)
          c.is_a_box.ensures told.empty told.answers,
    )

pub returns-then-is_too_many : goal.returns-then-is_too_many
returns-then-is_too_many c =
    let ds = (grid_in c.args.grid.now).dimensions in
    let some = c.in-Some.some in
    let limits = c.args.limits.now in
    let many : length some.parts.items ≡ limits.too_many = search rules in
    long_page_of ds (IsKey (encoding_in c.args.encoding.now)) c.args.elements.now c.args.first (chained_in c.args.grid.now)
    (has_key (encoding_in c.args.encoding.now)) c.is_a_box.ensures c.wanted-most.result limits.most limits.too_many some c.some_parts.result
    (c.in_ok-some.ensures.found ∙ ap Ok c.in-Some.is) c.some_parts.ensures.answers c.some_parts.ensures.parts c.wanted-most.ensures many

pub returns : goal.returns
returns c =
    let ds = (grid_in c.args.grid.now).dimensions in
    let some = c.in-Some.some in
    let limits = c.args.limits.now in
    let counted : c.len-count.result ≡ length some.parts.items = search rules in
    let few : c.len-count.result ≢ limits.too_many = search rules in
    parts_page ds (IsKey (encoding_in c.args.encoding.now)) c.args.elements.now c.args.first c.wanted-most.result limits.most limits.too_many
    c.len-count.result some c.some_parts.result c.in_ok-items.items.items (view c.in_ok-page_tree.field-0)
    (c.in_ok-some.ensures.found ∙ ap Ok c.in-Some.is)
    c.some_parts.ensures.answers c.some_parts.ensures.parts c.wanted-most.ensures (c.in_ok-items.ensures ∙ ap (map part_tree) c.deref.ensures.value) counted few
    c.in_ok-page_tree.ensures
