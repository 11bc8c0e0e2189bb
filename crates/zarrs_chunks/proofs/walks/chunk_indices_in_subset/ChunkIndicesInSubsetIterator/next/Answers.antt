use Rattle.std.proofs.Common.{◌≡◌, ◌∙◌, ℕ, List, ◌∷◌, length, map, ap, ap₂, subst, sym}
use Rattle.zarrs_chunk_axes.specs.InBounds.{AreBelow}
use Rattle.zarrs_chunk_axes.specs.seen.RowMajorWalk.{IsAtList, Stands, lists_from, lists_left, numbers_at, shape_of}
use Rattle.zarrs_chunks.specs.Walks.{counted_from}
use Rattle.zarrs_chunks.proofs.ChunksInBoxes.{are_counted, length_below, sums_fit, written}
use Rattle.zarrs_chunks.proofs.walks.chunk_indices_in_subset.ChunkIndicesInSubsetIterator.next.Goals as goal

-- the first of what was left, counted from the start, and the others
gives_first : (start : List ℕ) (left rest others : List (List ℕ)) (numbers new : List ℕ) → left ≡ numbers ∷ rest → others ≡ rest
    → new ≡ counted_from start numbers → map (counted_from start) left ≡ new ∷ map (counted_from start) others
gives_first start left rest others numbers new first same is =
    ap (map (counted_from start)) first ∙ ap₂ (λ x xs. x ∷ map (counted_from start) xs) (sym is) (sym same)

pub count_from-requires-clause-fits : goal.count_from-requires-clause-fits
count_from-requires-clause-fits c =
    let chunks = c.args.self.now.chunks in
    let box = c.start.ensures.is_box in
    let at : IsAtList c.step.new.self = subst (λ found. Stands found c.step.new.self) c.in-Ok-true.field-0-test c.in-Ok-true.ensures.stands in
    let shape : shape_of c.step.new.self ≡ chunks.shape = c.in-Ok-true.ensures.shape ∙ c.args.self.now.shape in
    let below : AreBelow chunks.shape c.in-Ok.chunk.items = rw (← shape, c.in-Ok.ensures.copy) at.below in
    let fits = sums_fit chunks.start chunks.shape c.in-Ok.chunk.items box.lengths box.fits below in
    rw (c.start.ensures.value, c.as_mut_slice.ensures.value) fits

pub returns-in-Ok-clause-steps : goal.returns-in-Ok-clause-steps
returns-in-Ok-clause-steps c =
    let chunks = c.args.self.now.chunks in
    let walk = c.step.new.self in
    let items = c.in-Ok.chunk.items in
    let new = c.count_from.new.numbers in
    let box = c.start.ensures.is_box in
    let at : IsAtList walk = subst (λ found. Stands found walk) c.in-Ok-true.field-0-test c.in-Ok-true.ensures.stands in
    let shape : shape_of walk ≡ chunks.shape = c.in-Ok-true.ensures.shape ∙ c.args.self.now.shape in
    let below : AreBelow chunks.shape items = rw (← shape, c.in-Ok.ensures.copy) at.below in
    let many : length items ≡ length chunks.start = length_below chunks.shape items below ∙ sym box.lengths in
    let as_many : length new ≡ length items = rw c.as_mut_slice.ensures.value at c.count_from.ensures.length in
    let counted : new ≡ counted_from chunks.start items =
    are_counted chunks.start items new many as_many (rw (c.start.ensures.value, c.as_mut_slice.ensures.value) at c.count_from.ensures.sum)
    in
    let left : lists_left c.args.self.now.offsets ≡ numbers_at walk ∷ lists_left walk =
    subst (λ found. lists_left c.args.self.now.offsets ≡ lists_from found walk) c.in-Ok-true.field-0-test c.in-Ok-true.ensures.gives
    in
    rw (written new items as_many)
    (gives_first chunks.start (lists_left c.args.self.now.offsets) (lists_left walk) (lists_left c.indices.new.self) (numbers_at walk) new left
    (ap lists_left c.in-Ok.ensures.stays) (counted ∙ ap (counted_from chunks.start) c.in-Ok.ensures.copy))
