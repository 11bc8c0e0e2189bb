use Rattle.std.proofs.Common.{ℕ, below_more, get_or, subst}
use Rattle.zarrs_chunk_axes.specs.LookUp.{HasRange}
use Rattle.zarrs_chunk_prepared.specs.Prepared.{IsTableOf}
use Rattle.zarrs_chunk_prepared.specs.seen.PreparedGrid.{HasSomeRangeIn, table_at}
use Rattle.zarrs_chunk_prepared.proofs.Tables.{none_found, some_found}
use Rattle.zarrs_chunk_prepared.proofs.Written.{table_is}
use Rattle.zarrs_chunk_prepared.proofs.boxes.have_ranges.Goals as goal

pub returns-then-is_none-clause-one : goal.returns-then-is_none-clause-one
returns-then-is_none-clause-one c none =
    let k = c.loop-dimension.dimension in
    let chunk = get_or c.args.chunk.now k 0 in
    let table = table_is c.args.axes.now k c.index-axes-dimension.result c.loop-dimension-test.true c.index-axes-dimension.is in (
      k,
      c.loop-dimension-test.true,
      λ d is. none_found c.range_of.result ((range : ℕ × ℕ) → ¬ HasRange d chunk range) (HasRange d chunk)
          (c.range_of.ensures d (subst (IsTableOf d) table is)) c.if-is_none.ensures,
    )

pub loop-dimension-preserved : goal.loop-dimension-preserved
loop-dimension-preserved c =
    let k = c.loop-dimension.dimension in
    let chunk = get_or c.args.chunk.now k 0 in
    let table = table_is c.args.axes.now k c.index-axes-dimension.result c.loop-dimension-test.true c.index-axes-dimension.is in
    below_more (λ k. HasSomeRangeIn (table_at c.args.axes.now k) (get_or c.args.chunk.now k 0)) k c.loop-dimension.invariant
    (λ d is.
    some_found c.range_of.result ((range : ℕ × ℕ) → ¬ HasRange d chunk range) (HasRange d chunk)
    (c.range_of.ensures d (subst (IsTableOf d) table is)) c.if-is_none.ensures)
