use Rattle.std.proofs.Common.{[], ◌++◌, ◌∙◌, ap, append-nil, refl, subst, sym}
use Rattle.std.specs.List.{AllZip}
use Rattle.zarrs_chunks.specs.Walks.{chunks_in}
use Rattle.zarrs_chunks.specs.seen.Walks.{chunks_in_left}
use Rattle.zarrs_chunk_plan.proofs.Walked.{one_came}
use Rattle.callers.proofs.reading.read_part.Goals as goal

pub loop-place-init : goal.loop-place-init
loop-place-init g c =
    let answers = g.S.ChunkStore.answers c.args.store.now c.args.part.key in (
      [],
      ap chunks_in (sym c.in_ok-clone.ensures) ∙ sym c.in_ok-place-items.ensures
          ∙ ap chunks_in_left (sym c.into_iter-place-iterator.ensures.into_iter_gives),
      subst (AllZip answers []) (sym c.new-elements.ensures.items) tt,
    )

pub loop-place-preserved : goal.loop-place-preserved
loop-place-preserved g c =
    let answers = g.S.ChunkStore.answers c.args.store.now c.args.part.key in
    let (came, all, are) = c.loop-place.invariant in
    let gives = rw c.in_ok-place.was at c.in-Some.ensures.steps in
    one_came answers (chunks_in c.args.part.in_chunk) came (chunks_in_left c.loop-place.place-iterator) (chunks_in_left c.next.new.self)
    c.in_ok-place.place.items c.element.result c.loop-place.elements.items c.push.new.self.items all gives are
    (subst (λ place. answers place c.element.result) c.as_slice.ensures c.element.ensures) c.in_ok-push.ensures.items

pub loop-place-preserved-in_ok-push : goal.loop-place-preserved-in_ok-push
loop-place-preserved-in_ok-push g c =
    let answers = g.S.ChunkStore.answers c.args.store.now c.args.part.key in
    let (came, all, are) = c.loop-place.invariant in
    let gives = rw c.in_ok-place.was at c.in-Some.ensures.steps in
    one_came answers (chunks_in c.args.part.in_chunk) came (chunks_in_left c.loop-place.place-iterator) (chunks_in_left c.next.new.self)
    c.in_ok-place.place.items c.element.result c.loop-place.elements.items c.push.new.self.items all gives are
    (subst (λ place. answers place c.element.result) c.as_slice.ensures c.element.ensures) c.in_ok-push.ensures.items

pub returns : goal.returns
returns g c =
    let answers = g.S.ChunkStore.answers c.args.store.now c.args.part.key in
    let (came, all, are) = c.loop-place.invariant in (
      refl,
      subst (λ places. AllZip answers places c.loop-place.elements.items)
          (sym (all ∙ ap (λ xs. came ++ xs) c.in-None.ensures.steps.0 ∙ append-nil came)) are,
    )
