use Rattle.std.proofs.Common.{◌∙◌, arith, refl, sym, take_all}
use Rattle.std.proofs.lemmas.Bool.{true≢false}
use Rattle.zarrs_chunk_tasks.specs.seen.TriedEdges.{IsFew, IsSome}
use Rattle.zarrs_chunk_tasks.proofs.TriedEdges.{all_more}
use Rattle.zarrs_chunk_tasks.proofs.TriedSizes.{all_at}
use Rattle.zarrs_chunk_tasks.proofs.edges.are_few.Goals as goal

pub is_few-requires : goal.is_few-requires
is_few-requires c = all_at IsSome c.args.units.now c.loop-along.along-index _ c.loop-along-test.true c.requires

pub returns-then-not-is_few : goal.returns-then-not-is_few
returns-then-not-is_few c = (
  λ is. absurd (true≢false (sym is)),
  λ all.
      let here = c.is_few.ensures.1 (all_at IsFew c.args.units.now c.loop-along.along-index _ c.loop-along-test.true all) in
      absurd (true≢false (sym here ∙ c.if-not-is_few.true)),
)

pub loop-along-preserved : goal.loop-along-preserved
loop-along-preserved c =
    all_more IsFew c.args.units.now c.loop-along.along-index _ c.loop-along-test.true c.loop-along.invariant (c.is_few.ensures.0 c.if-not-is_few.false)

pub returns : goal.returns
returns c =
    let whole = take_all c.loop-along.along-index c.args.units.now (omega (arith, c.loop-along-test.false)) in
    (λ _. rw whole at c.loop-along.invariant, λ _. refl)
