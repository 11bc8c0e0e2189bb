use Rattle.std.proofs.Common.{◌+◌, ◌/◌, ◌∙◌, ap, refl, sym, arith}
use Rattle.zarrs_chunk_runs.proofs.Halving.{begin, counted, found, shrunk}
use Rattle.zarrs_chunk_runs.proofs.search.first_above.Goals as goal

pub loop-left-init : goal.loop-left-init
loop-left-init g c = rw c.places-left.ensures (refl, refl, begin _ _ _)

pub above-above-requires : goal.above-above-requires
above-above-requires g c = let (places, truths, so_far) = c.loop-left.invariant in let bound = so_far.bound in omega arith

pub loop-left-preserved : goal.loop-left-preserved
loop-left-preserved g c =
    let (places, truths, so_far) = c.loop-left.invariant in
    let middle = c.loop-left.low + c.loop-left.left / 2 in
    let asked = c.above-above.ensures in (
      asked.places ∙ places,
      asked.truths ∙ truths,
      rw (c.either-low.ensures, c.either-left.ensures)
          (shrunk _ _ _ _ _ _ _ so_far c.requires (omega arith) asked.counted c.above-above.result
          (ap (λ truth. truth middle) (sym truths) ∙ sym asked.answer)),
    )

pub returns-clause-found : goal.returns-clause-found
returns-clause-found g c = let (places, truths, so_far) = c.loop-left.invariant in found _ _ _ _ _ _ so_far (omega arith)

pub returns-clause-places : goal.returns-clause-places
returns-clause-places g c = let (places, truths, so_far) = c.loop-left.invariant in places

pub returns-clause-truths : goal.returns-clause-truths
returns-clause-truths g c = let (places, truths, so_far) = c.loop-left.invariant in truths

pub returns-clause-counted : goal.returns-clause-counted
returns-clause-counted g c = let (places, truths, so_far) = c.loop-left.invariant in counted _ _ _ _ _ _ so_far (omega arith)
