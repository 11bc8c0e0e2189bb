use Rattle.std.proofs.Common.{ℕ, ◌<◌, arith, get_or, length, subst}
use Rattle.zarrs_chunk_axes.specs.LookUp.{HasRange}
use Rattle.zarrs_chunk_prepared.specs.Prepared.{IsTableOf}
use Rattle.zarrs_chunk_prepared.specs.seen.PreparedGrid.{IsRangeIn, table_at}
use Rattle.zarrs_chunk_prepared.proofs.Tables.{is_taken}
use Rattle.zarrs_chunk_prepared.proofs.Written.{table_is, two_more}
use Rattle.zarrs_chunk_prepared.proofs.boxes.write_box.Goals as goal

pub loop-dimension-preserved : goal.loop-dimension-preserved
loop-dimension-preserved c =
    let n = c.loop-dimension.dimension in
    let axes = c.args.axes.now in
    let chunk = λ (k : ℕ). get_or c.args.chunk.now k 0 in
    let table = table_is axes n c.index-axes-dimension.result c.loop-dimension-test.true c.index-axes-dimension.is in
    let within = c.loop-dimension-test.true in
    let origin_room : n < length c.loop-dimension.origin = omega (arith, c.loop-dimension.auto.origin, c.requires.origin, within) in
    let shape_room : n < length c.loop-dimension.shape = omega (arith, c.loop-dimension.auto.shape, c.requires.shape, within) in
    two_more (λ k start size. IsRangeIn (table_at axes k) (chunk k) start size) n c.unwrap_or-start.result.0 c.unwrap_or-start.result.1
    c.loop-dimension.origin c.loop-dimension.shape origin_room shape_room c.loop-dimension.invariant
    (λ d is.
    let (range, has) = c.requires.ranges n within d is in
    is_taken c.range_of.result (0, 0) c.unwrap_or-start.result ((range : ℕ × ℕ) → ¬ HasRange d (chunk n) range) (HasRange d (chunk n))
    (c.range_of.ensures d (subst (IsTableOf d) table is)) (λ none. none range has) c.unwrap_or-start.ensures)

pub returns : goal.returns
returns c k within = c.loop-dimension.invariant k (omega (arith, c.loop-dimension-test.false))
