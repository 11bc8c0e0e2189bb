use Rattle.std.proofs.Common.{arith, refl, sym}
use Rattle.std.proofs.lemmas.Bool.{le-leb, leb-true, true≢false}
use Rattle.zarrs_chunk_tasks.proofs.tried.are_few.Goals as goal

pub returns-then-not-are_few_along_each : goal.returns-then-not-are_few_along_each
returns-then-not-are_few_along_each c = (
  λ is. absurd (true≢false (sym is)),
  λ (few, _). absurd (true≢false (sym ((c.if-not-are_few_along_each.ensures {u = tt}).1 few))),
)

pub returns : goal.returns
returns c =
    let few = (c.if-not-are_few_along_each.ensures {u = tt}).0 refl in
    let chunks = c.chunks_to.ensures few in (
      λ is. let up_to = leb-true c.chunks_to.result 16777216 is in (few, omega (arith, chunks, up_to)),
      λ (_, up_to). le-leb c.chunks_to.result 16777216 (omega (arith, chunks, up_to)),
    )
