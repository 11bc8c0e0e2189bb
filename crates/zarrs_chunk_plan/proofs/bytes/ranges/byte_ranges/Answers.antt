use Rattle.zarrs_chunk_plan.proofs.Common.{◌∙◌, ap, arith, Contains, Some, sym, non_zero_u64_get, in_order}
use Rattle.std.proofs.lemmas.Bool.{true≢false}
use Rattle.zarrs_chunk_plan.proofs.bytes.StoredOrder.{ends_in_order, some_in_order}
use Rattle.zarrs_chunk_plan.proofs.StridedForms.{counted_form, form_tells, none_where_out, where_empty}
use Rattle.zarrs_chunk_plan.proofs.bytes.ranges.byte_ranges.Goals as goal

pub some_ranges-requires-clause-within : goal.some_ranges-requires-clause-within
some_ranges-requires-clause-within c =
    rw (c.deref.ensures.value, c.in_ok-edges.ensures, c.deref-2.ensures.value, c.in_ok-start.ensures, c.deref-3.ensures.value, c.in_ok-shape.ensures)
    (rw (c.start-2.ensures.value, c.shape-2.ensures.value)
    (ends_in_order _ _ _ _ (rw (c.start.ensures.value, c.shape.ensures.value) at (c.lies_in.ensures.lies.0 c.if-not-lies_in.false))))

pub some_ranges-requires-clause-some : goal.some_ranges-requires-clause-some
some_ranges-requires-clause-some c =
    let some : ¬ Contains c.args.elements.now.shape 0 = λ has. true≢false (sym (c.is_empty.ensures.1 has) ∙ c.if-is_empty.false) in
    rw (c.deref-3.ensures.value, c.in_ok-shape.ensures, c.shape-2.ensures.value) (some_in_order c.args.order c.args.elements.now.shape some)

pub returns-then-not-lies_in-clause-form : goal.returns-then-not-lies_in-clause-form
returns-then-not-lies_in-clause-form c =
    none_where_out _ _ _ _ _
    (λ lies. true≢false (sym (c.lies_in.ensures.lies.1 (rw (c.start.ensures.value, c.shape.ensures.value) lies)) ∙ c.if-not-lies_in.true))

pub returns-then-is_empty-clause-form : goal.returns-then-is_empty-clause-form
returns-then-is_empty-clause-form c =
    ap Some c.in_ok-no_ranges.ensures
    ∙ where_empty _ _ _ _ _ (rw (c.start.ensures.value, c.shape.ensures.value) at (c.lies_in.ensures.lies.0 c.if-not-lies_in.false))
    (c.is_empty.ensures.0 c.if-is_empty.true)

pub returns-clause-form : goal.returns-clause-form
returns-clause-form c =
    let edges = c.deref.ensures.value ∙ c.in_ok-edges.ensures in
    let start = c.deref-2.ensures.value ∙ c.in_ok-start.ensures ∙ ap (in_order c.args.order) c.start-2.ensures.value in
    let shape = c.deref-3.ensures.value ∙ c.in_ok-shape.ensures ∙ ap (in_order c.args.order) c.shape-2.ensures.value in
    counted_form (non_zero_u64_get c.args.item_size) c.args.order c.args.edges.now c.args.elements.now.start c.args.elements.now.shape
    (rw (c.start.ensures.value, c.shape.ensures.value) at (c.lies_in.ensures.lies.0 c.if-not-lies_in.false))
    (λ has. true≢false (sym (c.is_empty.ensures.1 has) ∙ c.if-is_empty.false)) c.in_ok-found.found (rw (edges, start, shape) at c.in_ok-found.ensures)

pub returns-then-is_empty-clause-found : goal.returns-then-is_empty-clause-found
returns-then-is_empty-clause-found c =
    (form_tells (non_zero_u64_get c.args.item_size) (omega arith) c.args.order c.args.edges.now c.args.elements.now.start c.args.elements.now.shape
    (Some c.in_ok-no_ranges.field-0) (returns-then-is_empty-clause-form c)).0

pub returns-then-is_empty-clause-fit : goal.returns-then-is_empty-clause-fit
returns-then-is_empty-clause-fit c =
    (form_tells (non_zero_u64_get c.args.item_size) (omega arith) c.args.order c.args.edges.now c.args.elements.now.start c.args.elements.now.shape
    (Some c.in_ok-no_ranges.field-0) (returns-then-is_empty-clause-form c)).1

pub returns-clause-found : goal.returns-clause-found
returns-clause-found c =
    (form_tells (non_zero_u64_get c.args.item_size) (omega arith) c.args.order c.args.edges.now c.args.elements.now.start c.args.elements.now.shape
    c.in_ok-found.found (returns-clause-form c)).0

pub returns-clause-fit : goal.returns-clause-fit
returns-clause-fit c =
    (form_tells (non_zero_u64_get c.args.item_size) (omega arith) c.args.order c.args.edges.now c.args.elements.now.start c.args.elements.now.shape
    c.in_ok-found.found (returns-clause-form c)).1
