use Rattle.std.proofs.Common.{ℕ, ◌<◌, ◌≤◌, arith, get_or, length, subst}
use Rattle.zarrs_chunk_prepared.specs.Prepared.{IsTableOf}
use Rattle.zarrs_chunk_prepared.specs.seen.PreparedGrid.{IsChunkIn, IsPlaceIn, table_at}
use Rattle.zarrs_chunk_prepared.proofs.Written.{both_more, one_more, table_is}
use Rattle.zarrs_chunk_prepared.proofs.homes.write_home.Goals as goal

pub loop-dimension-preserved : goal.loop-dimension-preserved
loop-dimension-preserved c =
    let n = c.loop-dimension.dimension in
    let axes = c.args.axes.now in
    let index = λ (k : ℕ). get_or c.args.index.now k 0 in
    let table = table_is axes n c.index-axes-dimension.result c.loop-dimension-test.true c.index-axes-dimension.is in
    let home = c.home_of-at.ensures in
    let chunk = c.home_of-at.result.0 in
    let place = c.home_of-at.result.1 in
    let within = (c.requires.reach n c.loop-dimension-test.true).0 in
    let room : n < length c.loop-dimension.chunk = omega (arith, c.loop-dimension.auto.chunk, c.requires.chunk, c.loop-dimension-test.true) in
    record {
      chunks = one_more (λ k c. IsChunkIn (table_at axes k) (index k) c) n chunk c.loop-dimension.chunk room c.loop-dimension.invariant.chunks
          (λ d is. (home d (subst (IsTableOf d) table is) (subst (λ t. index n ≤ t.last_index) table within)).0);
      places = both_more (λ k c p. IsPlaceIn (table_at axes k) (index k) c p) n chunk place c.loop-dimension.chunk c.loop-dimension.place
          c.put.new.numbers room c.put.ensures.written c.put.ensures.kept c.loop-dimension.invariant.places
          (λ d is. (home d (subst (IsTableOf d) table is) (subst (λ t. index n ≤ t.last_index) table within)).1);
    }

pub returns-clause-chunks : goal.returns-clause-chunks
returns-clause-chunks c k within = c.loop-dimension.invariant.chunks k (omega (arith, c.loop-dimension-test.false))
