use Rattle.std.proofs.Common.{sym}
use Rattle.zarrs_chunk_tasks.proofs.sizes.is_beaten.Goals as goal

pub loop-place-init : goal.loop-place-init
loop-place-init c = tt

pub returns-then-other-size-3 : goal.returns-then-other-size-3
returns-then-other-size-3 c = λ _. (
  c.index-sizes-place.result,
  (c.loop-place.place, c.loop-place-test.true, sym c.index-sizes-place.is),
  record {
    largest = c.if-other-size.true;
    chunks = c.if-other-size-2.true;
    elements = c.if-other-size-3.true;
  },
)

pub loop-place-preserved : goal.loop-place-preserved
loop-place-preserved c = tt
