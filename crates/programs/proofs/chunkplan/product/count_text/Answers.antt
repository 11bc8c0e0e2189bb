use Rattle.programs.proofs.chunkplan.Common.{◌∙◌, ◌*◌, ap, value}
use Rattle.zarrs_chunk_tasks.specs.Counts.{count_along}
use Rattle.programs.proofs.chunkplan.RouteLists.{counts_taken}
use Rattle.programs.proofs.chunkplan.product.count_text.Goals as goal

pub loop-counts-preserved : goal.loop-counts-preserved
loop-counts-preserved c =
    let along = c.args.along.now in
    let k = c.loop-counts.counts-index in
    let f = count_along c.args.count in
    let (are, is) = c.loop-counts.invariant in
    let times = c.in_ok-digits-2.ensures.value ∙ ap (λ ds. c.along.result * value ds) c.deref.ensures.value ∙ ap (λ n. c.along.result * n) is in (
      c.in_ok-digits-2.ensures.digits,
      counts_taken f along k c.loop-counts-test.true _ c.along.result c.along.ensures (value c.in_ok-digits-2.digits.items) times,
    )
