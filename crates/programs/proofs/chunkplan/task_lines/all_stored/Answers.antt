use Rattle.programs.proofs.chunkplan.Common.{◌∙◌, [], ◌∷◌, ◌++◌, IsTrue, at_first, at_last, one_more, refl, sym}
use Rattle.programs.specs.chunkplan.seen.Resume.{is_stored_whole}
use Rattle.programs.specs.chunkplan.seen.Opened.{dimensions_in, key_in}
use Rattle.programs.proofs.chunkplan.StoredParts.{first_are_not, one_is_not, one_more_stored, same_stored}
use Rattle.programs.proofs.chunkplan.task_lines.all_stored.Goals as goal

pub loop-part-init : goal.loop-part-init
loop-part-init c = (
  [],
  at_first dimensions_in key_in c.args.walk c.into_iter-part-iterator.result [] c.into_iter-part-iterator.ensures.into_iter_gives refl c.requires.meet,
  refl,
)

pub loop-part-preserved : goal.loop-part-preserved
loop-part-preserved c =
    let (came, have, all) = c.loop-part.invariant in
    let part = c.in_ok-part.field-0 in
    let gives = rw c.in_ok-part.was at c.in-Some.ensures.steps in
    let stands : IsTrue (is_stored_whole c.args.stored.now part) = sym c.is_stored_whole-stands.ensures ∙ c.if-not-stands.false in (
      came ++ part ∷ [],
      one_more dimensions_in key_in c.args.walk c.loop-part.part-iterator c.next.new.self part came (came ++ part ∷ []) have gives refl,
      one_more_stored c.args.stored.now came part all stands,
    )

pub returns-then-not-stands : goal.returns-then-not-stands
returns-then-not-stands c = λ parts are.
    let walk = c.args.walk in
    let stored = c.args.stored.now in
    let (came, have, all) = c.loop-part.invariant in
    let part = c.in_ok-part.field-0 in
    let gives = rw c.in_ok-part.was at c.in-Some.ensures.steps in
    let (chunks, left, zipped, about, meet) =
    one_more dimensions_in key_in walk c.loop-part.part-iterator c.next.new.self part came (came ++ part ∷ []) have gives refl in
    let isnt = one_is_not stored came part (sym c.is_stored_whole-stands.ensures ∙ c.if-not-stands.true) in
    sym (first_are_not stored (dimensions_in walk.grid.now) (key_in walk.encoding.now) walk.array_subset chunks _ (came ++ part ∷ []) parts zipped
    (rw left at are) isnt)

pub returns : goal.returns
returns c = λ parts are.
    let walk = c.args.walk in
    let stored = c.args.stored.now in
    let (came, have, all) = c.loop-part.invariant in
    let come = at_last dimensions_in key_in walk c.loop-part.part-iterator c.next.new.self came have c.in-None.ensures.steps in
    let same = same_stored stored (dimensions_in walk.grid.now) (key_in walk.encoding.now) walk.array_subset _ came parts come are in
    sym all ∙ same
