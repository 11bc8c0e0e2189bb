use Rattle.std.proofs.Common.{◌≡◌, ◌<◌, ap, arith, length, sym}
use Rattle.zarrs_chunk_prepared.specs.seen.PreparedGrid.{table_at}
use Rattle.zarrs_chunk_prepared.proofs.Written.{one_more, table_is}
use Rattle.zarrs_chunk_prepared.proofs.covers.write_sizes.Goals as goal

pub loop-dimension-preserved : goal.loop-dimension-preserved
loop-dimension-preserved c =
    let n = c.loop-dimension.dimension in
    let axes = c.args.axes.now in
    let table = table_is axes n c.index-axes-dimension.result c.loop-dimension-test.true c.index-axes-dimension.is in
    let room : n < length c.loop-dimension.sizes = omega (arith, c.loop-dimension.auto.sizes, c.requires, c.loop-dimension-test.true) in
    one_more (λ k size. size ≡ (table_at axes k).grid_size) n c.index-axes-dimension.result.grid_size c.loop-dimension.sizes room
    c.loop-dimension.invariant (sym (ap (λ t. t.grid_size) table))
