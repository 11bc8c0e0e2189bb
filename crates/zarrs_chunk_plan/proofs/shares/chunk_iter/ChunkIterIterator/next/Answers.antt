use Rattle.zarrs_chunk_plan.proofs.Common.{◌≡◌, ◌∙◌, ◌∷◌, length, map, ap, refl, sym, arith, counted_from, length_below}
use Rattle.std.specs.List.{refill}
use Rattle.zarrs_chunks.proofs.ChunksInBoxes.{are_counted, sums_fit, written}
use Rattle.zarrs_chunk_plan.specs.seen.Between.{lists_between}
use Rattle.zarrs_chunk_plan.proofs.shares.Between.{some_left, stepped}
use Rattle.zarrs_chunk_plan.proofs.shares.chunk_iter.ChunkIterIterator.next.Goals as goal

pub count_from-requires-clause-fits : goal.count_from-requires-clause-fits
count_from-requires-clause-fits c =
    let walk = c.args.self.now in
    let box = c.start.ensures.is_box in
    let fits = sums_fit walk.chunks.start walk.chunks.shape walk.next.items box.lengths box.fits (walk.below c.if-self.false) in
    rw (c.start.ensures.value, c.as_mut_slice.ensures.value, c.in-Ok.ensures.ok, c.as_slice.ensures) fits

pub invariant_of-self : goal.invariant_of-self
invariant_of-self c =
    let walk = c.args.self.now in
    let items = walk.next.items in
    let advanced = rw (c.shape.ensures.value, c.as_mut_slice-in-Ok.ensures.value) at c.advance-found.ensures in
    let step = stepped walk.chunks.shape walk.end walk.end_below items c.advance-found.new.numbers c.advance-found.result c.is_over-self.result
    (walk.below c.if-self.false) (walk.before c.if-self.false) advanced.below advanced.next (rw c.as_slice-in-Ok.ensures at c.is_over-self.ensures)
    in
    record { below = step.below; end_below = walk.end_below; before = step.before }

pub returns-in-Ok-clause-steps : goal.returns-in-Ok-clause-steps
returns-in-Ok-clause-steps c =
    let walk = c.args.self.now in
    let chunks = walk.chunks in
    let shape = chunks.shape in
    let items = walk.next.items in
    let next = c.advance-found.new.numbers in
    let over = c.is_over-self.result in
    let advanced = rw (c.shape.ensures.value, c.as_mut_slice-in-Ok.ensures.value) at c.advance-found.ensures in
    let step = stepped shape walk.end walk.end_below items next c.advance-found.result over (walk.below c.if-self.false)
    (walk.before c.if-self.false) advanced.below advanced.next (rw c.as_slice-in-Ok.ensures at c.is_over-self.ensures)
    in
    let copied : c.in-Ok.chunk.items ≡ items = c.in-Ok.ensures.ok ∙ c.as_slice.ensures in
    let counts = c.count_from.new.numbers in
    let as_many : length counts ≡ length c.in-Ok.chunk.items = rw c.as_mut_slice.ensures.value at c.count_from.ensures.length in
    let many : length c.in-Ok.chunk.items ≡ length chunks.start =
    rw copied (length_below shape items (walk.below c.if-self.false) ∙ sym c.start.ensures.is_box.lengths) in
    let counted : counts ≡ counted_from chunks.start c.in-Ok.chunk.items =
    are_counted _ _ _ many as_many (rw (c.start.ensures.value, c.as_mut_slice.ensures.value) at c.count_from.ensures.sum)
    in
    record {
      gives =
          ap (map (counted_from chunks.start)) (ap (lists_between shape items walk.end) c.if-self.false ∙ step.left)
          ∙ ap (λ chunk. chunk ∷ map (counted_from chunks.start) (lists_between shape (refill (length items) items next) walk.end over))
          (sym (written counts c.in-Ok.chunk.items as_many ∙ counted ∙ ap (counted_from chunks.start) copied));
      chunks = refl;
    }

pub returns-in-Ok-clause-goes : goal.returns-in-Ok-clause-goes
returns-in-Ok-clause-goes c =
    let walk = c.args.self.now in
    let shape = walk.chunks.shape in
    let items = walk.next.items in
    let advanced = rw (c.shape.ensures.value, c.as_mut_slice-in-Ok.ensures.value) at c.advance-found.ensures in
    let step = stepped shape walk.end walk.end_below items c.advance-found.new.numbers c.advance-found.result c.is_over-self.result
    (walk.below c.if-self.false) (walk.before c.if-self.false) advanced.below advanced.next (rw c.as_slice-in-Ok.ensures at c.is_over-self.ensures)
    in
    let fewer = ap length (ap (lists_between shape items walk.end) c.if-self.false ∙ step.left) in
    record { on = λ _. (tt, tt, omega arith); keeps = tt; rests = λ _. tt }

pub returns-in-Err-clause-steps : goal.returns-in-Err-clause-steps
returns-in-Err-clause-steps c =
    let walk = c.args.self.now in
    let left = some_left walk.chunks.shape walk.end walk.next.items (walk.below c.if-self.false) (walk.before c.if-self.false) in
    let some = ap (lists_between walk.chunks.shape walk.next.items walk.end) c.if-self.false ∙ left in
    record { gives = (λ none. let differ = sym some ∙ none in cc, refl, refl); chunks = refl }

pub returns-in-Err-clause-goes : goal.returns-in-Err-clause-goes
returns-in-Err-clause-goes c =
    let walk = c.args.self.now in
    let left = some_left walk.chunks.shape walk.end walk.next.items (walk.below c.if-self.false) (walk.before c.if-self.false) in
    let some = ap length (ap (lists_between walk.chunks.shape walk.next.items walk.end) c.if-self.false ∙ left) in
    record { on = λ _. (tt, tt, omega arith); keeps = tt; rests = λ _. tt }
