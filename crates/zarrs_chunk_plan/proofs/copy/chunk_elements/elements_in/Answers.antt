use Rattle.zarrs_chunk_plan.proofs.Common.{◌≡◌, ◌∙◌, ◌<◌, ◌≤◌, ℕ, List, ap, arith, get_or, length, sym, IsEmptyBox, array_sizes, lasts, HoldsSome}
use Rattle.std.proofs.lemmas.List.{get_or_default}
use Rattle.std.proofs.lemmas.List.Elements.{AllZip-get_or}
use Rattle.zarrs_chunk_axes.proofs.OverBox.{length_lasts}
use Rattle.zarrs_chunks.proofs.Covers.{firsts_before_lasts}
use Rattle.zarrs_chunk_plan.proofs.HeldBoxes.{along_each, meets_hold}
use Rattle.zarrs_chunk_plan.proofs.MovedBoxes.{lasts_lie, zeros_lie}
use Rattle.zarrs_chunk_plan.proofs.counts.HeldRanges.{held_box, held_more}
use Rattle.zarrs_chunk_plan.proofs.counts.MetCovers.{none_held, zeros_empty}
use Rattle.zarrs_chunk_plan.proofs.counts.Written.{first_within, last_within}
use Rattle.zarrs_chunk_plan.proofs.copy.chunk_elements.elements_in.Goals as goal

pub returns-in_default-clause-elements : goal.returns-in_default-clause-elements
returns-in_default-clause-elements g c =
    let ds = g.G.ChunkGridTraits.dimensions c.args.grid.now in
    let empty : IsEmptyBox c.args.chunks.now = rw c.in_default.is at c.in_ok-last.ensures in
    λ index. rw (c.in_ok-new_empty.ensures, c.dimensionality.ensures) (none_held ds c.args.chunks.now c.is_a_box.ensures c.requires.long empty index)

pub returns-in_default-clause-empty : goal.returns-in_default-clause-empty
returns-in_default-clause-empty g c =
    let ds = g.G.ChunkGridTraits.dimensions c.args.grid.now in
    let empty : IsEmptyBox c.args.chunks.now = rw c.in_default.is at c.in_ok-last.ensures in
    rw (c.in_ok-new_empty.ensures, c.dimensionality.ensures)
    (λ _. empty, λ _. zeros_empty ds c.args.chunks.now c.is_a_box.ensures c.requires.long empty)

pub returns-in_default-clause-lies : goal.returns-in_default-clause-lies
returns-in_default-clause-lies g c =
    let ds = g.G.ChunkGridTraits.dimensions c.args.grid.now in
    rw (c.in_ok-new_empty.ensures, c.dimensionality.ensures) (zeros_lie ds)

pub index-requires : goal.index-requires
index-requires g c =
    let chunks = c.args.chunks.now in
    let last = rw c.in-Some.is at c.in_ok-last.ensures in
    let within = rw c.start-first.ensures.value at c.loop-dimension-test.true in
    omega (arith, within, ap length last.1, length_lasts chunks.start chunks.shape c.is_a_box.ensures.lengths, c.in-Some.last.ok)

pub elements_along-requires-clause-first : goal.elements_along-requires-clause-first
elements_along-requires-clause-first g c =
    let ds = g.G.ChunkGridTraits.dimensions c.args.grid.now in
    let chunks = c.args.chunks.now in
    let last = rw c.in-Some.is at c.in_ok-last.ensures in
    let within = rw c.start-first.ensures.value at c.loop-dimension-test.true in
    let first = meets_hold ds chunks.start (c.requires.meet chunks.start (first_within chunks.start chunks.shape c.is_a_box.ensures.lengths last.0)) in
    rw c.start-first.ensures.value (along_each HoldsSome ds chunks.start c.loop-dimension.dimension first (omega (arith, within, c.requires.long)))

-- the last chunk along a dimension
last_at : (k chunk : ℕ) (start shape found : List ℕ) → length start ≡ length shape → k < length start → found ≡ lasts start shape
    → chunk ≡ get_or found k chunk → chunk ≡ get_or (lasts start shape) k 0
last_at k chunk start shape found same within are is =
    is ∙ ap (λ l. get_or l k chunk) are ∙ get_or_default (lasts start shape) k chunk 0 (omega (arith, length_lasts start shape same))

pub elements_along-requires-clause-last : goal.elements_along-requires-clause-last
elements_along-requires-clause-last g c =
    let ds = g.G.ChunkGridTraits.dimensions c.args.grid.now in
    let chunks = c.args.chunks.now in
    let ends = lasts chunks.start chunks.shape in
    let long = c.is_a_box.ensures.lengths in
    let last = rw c.in-Some.is at c.in_ok-last.ensures in
    let within = rw c.start-first.ensures.value at c.loop-dimension-test.true in
    let hold = meets_hold ds ends (c.requires.meet ends (last_within chunks.start chunks.shape long last.0)) in
    rw (last_at c.loop-dimension.dimension c.index.result.now chunks.start chunks.shape _ long within last.1 c.index.ensures)
    (along_each HoldsSome ds ends c.loop-dimension.dimension hold (omega (arith, within, c.requires.long)))

pub elements_along-requires-clause-in_order : goal.elements_along-requires-clause-in_order
elements_along-requires-clause-in_order g c =
    let chunks = c.args.chunks.now in
    let long = c.is_a_box.ensures.lengths in
    let last = rw c.in-Some.is at c.in_ok-last.ensures in
    let within = rw c.start-first.ensures.value at c.loop-dimension-test.true in
    rw (c.start-first.ensures.value, last_at c.loop-dimension.dimension c.index.result.now chunks.start chunks.shape _ long within last.1 c.index.ensures)
    (AllZip-get_or ◌≤◌ chunks.start (lasts chunks.start chunks.shape) c.loop-dimension.dimension 0 0 (firsts_before_lasts chunks.start chunks.shape long) within)

pub loop-dimension-preserved : goal.loop-dimension-preserved
loop-dimension-preserved g c =
    let chunks = c.args.chunks.now in
    let n = c.loop-dimension.dimension in
    let last = rw c.in-Some.is at c.in_ok-last.ensures in
    let within = rw c.start-first.ensures.value at c.loop-dimension-test.true in
    let is = last_at n c.index.result.now chunks.start chunks.shape _ c.is_a_box.ensures.lengths within last.1 c.index.ensures in
    let range = rw (is ∙ ap (λ l. get_or l n 0) (sym last.1)) at (c.in_ok-range.ensures {u = tt}) in
    rw ((c.in_ok-push.ensures {u = tt}).items, (c.in_ok-push-2.ensures {u = tt}).items) (held_more _ _ _ _ _ _ _ n c.loop-dimension.invariant range)

pub box_of-requires : goal.box_of-requires
box_of-requires g c =
    let last = rw c.in-Some.is at c.in_ok-last.ensures in
    let is = held_box _ (g.met.G.ChunkGridTraits.chained c.args.grid.now) _ c.is_a_box.ensures c.requires.long last.0 _ _ _ _ _ c.start-first.ensures.value last.1
    c.loop-dimension.invariant c.loop-dimension-test.false c.loop-dimension.auto.dimension-end
    in
    is.is_box

pub returns-clause-elements : goal.returns-clause-elements
returns-clause-elements g c =
    let last = rw c.in-Some.is at c.in_ok-last.ensures in
    let is = held_box _ (g.met.G.ChunkGridTraits.chained c.args.grid.now) _ c.is_a_box.ensures c.requires.long last.0 _ _ _ _ _ c.start-first.ensures.value last.1
    c.loop-dimension.invariant c.loop-dimension-test.false c.loop-dimension.auto.dimension-end
    in
    rw c.box_of.ensures is.has

pub returns-clause-empty : goal.returns-clause-empty
returns-clause-empty g c =
    let last = rw c.in-Some.is at c.in_ok-last.ensures in
    let is = held_box _ (g.met.G.ChunkGridTraits.chained c.args.grid.now) _ c.is_a_box.ensures c.requires.long last.0 _ _ _ _ _ c.start-first.ensures.value last.1
    c.loop-dimension.invariant c.loop-dimension-test.false c.loop-dimension.auto.dimension-end
    in
    rw c.box_of.ensures (λ empty. absurd (is.some empty), λ empty. absurd (last.0 empty))

pub returns-clause-lies : goal.returns-clause-lies
returns-clause-lies g c =
    let ds = g.G.ChunkGridTraits.dimensions c.args.grid.now in
    let last = rw c.in-Some.is at c.in_ok-last.ensures in
    let is = held_box _ (g.met.G.ChunkGridTraits.chained c.args.grid.now) _ c.is_a_box.ensures c.requires.long last.0 _ _ _ _ _ c.start-first.ensures.value last.1
    c.loop-dimension.invariant c.loop-dimension-test.false c.loop-dimension.auto.dimension-end
    in
    let start = c.loop-dimension.start.items in
    let shape = c.loop-dimension.shape.items in
    let last_one = (is.has (lasts start shape)).0 (last_within start shape is.is_box.lengths is.some) in
    rw c.box_of.ensures (lasts_lie start shape (array_sizes ds) is.is_box.lengths is.some last_one.0)
