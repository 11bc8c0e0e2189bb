use Rattle.zarrs_chunk_plan.proofs.Common.{◌≡◌, ◌-◌, suc, arith, subst, pairwise_min}
use Rattle.zarrs_chunk_plan.proofs.resize.OutsideBoxes.{HasGrown, are_outside, grown_more, not_grown}
use Rattle.zarrs_chunk_plan.proofs.resize.outside.outside.Goals as goal

pub loop-dimension-init : goal.loop-dimension-init
loop-dimension-init c = rw (c.in_ok-shape.ensures, c.in_ok-boxes.ensures.items) (not_grown c.args.inner.now c.args.outer.now c.requires)

pub loop-dimension-preserved : goal.loop-dimension-preserved
loop-dimension-preserved c =
    let both = pairwise_min c.args.inner.now c.args.outer.now in
    let outer = c.args.outer.now in
    let shape = c.loop-dimension.shape.items in
    let boxes = c.loop-dimension.boxes.items in
    let left = c.loop-dimension.dimension - 1 in
    let is : c.loop-dimension.dimension ≡ suc left = omega arith in
    let so_far = subst (λ d. HasGrown both outer d shape boxes) is c.loop-dimension.invariant in
    let added = c.in_ok-added in
    grown_more both outer left shape boxes c.push_some.new.boxes.items added.added (omega arith) so_far added.ensures.is_box
    c.in_ok-push_some.ensures.chunks
    (rw c.deref.ensures.value at added.ensures.together) (rw c.deref.ensures.value at added.ensures.apart)

pub returns-clause-those : goal.returns-clause-those
returns-clause-those c = λ chunk.
    let inner = c.args.inner.now in
    let outer = c.args.outer.now in
    let ended : c.loop-dimension.dimension ≡ 0 = omega arith in
    are_outside inner outer c.loop-dimension.shape.items c.loop-dimension.boxes.items c.requires
    (subst (λ d. HasGrown (pairwise_min inner outer) outer d c.loop-dimension.shape.items c.loop-dimension.boxes.items) ended c.loop-dimension.invariant) chunk
