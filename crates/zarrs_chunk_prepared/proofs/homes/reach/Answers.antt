use Rattle.std.proofs.Common.{below_more, get_or, subst, sym}
use Rattle.zarrs_chunk_prepared.specs.seen.PreparedGrid.{Reaches, table_at}
use Rattle.zarrs_chunk_prepared.proofs.Written.{table_is}
use Rattle.zarrs_chunk_prepared.proofs.homes.reach.Goals as goal

pub loop-dimension-preserved : goal.loop-dimension-preserved
loop-dimension-preserved c =
    let k = c.loop-dimension.dimension in
    let table = table_is c.args.axes.now k c.index-axes-dimension.result c.loop-dimension-test.true c.index-axes-dimension.is in
    below_more (λ k. Reaches (table_at c.args.axes.now k) (get_or c.args.index.now k 0)) k c.loop-dimension.invariant
    (subst (λ t. Reaches t (get_or c.args.index.now k 0)) (sym table) (rw c.if-not-reaches.false at c.reaches.ensures))
