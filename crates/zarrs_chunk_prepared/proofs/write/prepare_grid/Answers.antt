use Rattle.std.proofs.Common.{◌≡◌, ◌∙◌, ◌<◌, ◌^◌, ap, arith, get_or, length, rules, sym}
use Rattle.std.proofs.lemmas.List.{length-map}
use Rattle.zarrs_chunk_base.specs.RunLength.{rectilinear_edges}
use Rattle.zarrs_chunk_prepared.specs.Prepared.{grid_mark}
use Rattle.zarrs_chunks.specs.seen.Grids.{grid_in}
use Rattle.zarrs_chunk_prepared.proofs.GridTables.{all_tables, as_many_edges, next_edges, one_table_more, told_at}
use Rattle.zarrs_chunk_prepared.proofs.write.prepare_grid.Goals as goal

pub append_dimension-requires : goal.append_dimension-requires
append_dimension-requires c =
    let k = c.loop-dimension.dimension in
    let edges = rw c.deref-edges-items.ensures.value at c.edges-item.is in
    let within = rw c.deref-edges-items.ensures.value at c.loop-dimension-test.true in
    let at = told_at c.args.grid.now c.in_ok-lengths.lengths.items k c.edges-item.result c.in_ok-lengths.ensures within edges in
    let fits : get_or c.array_shape.result.now k 0 < 2 ^ 64 = search rules in
    at.sum_fits (rw (← c.array_shape.ensures) (omega arith))

pub loop-dimension-preserved : goal.loop-dimension-preserved
loop-dimension-preserved c =
    let k = c.loop-dimension.dimension in
    let edges = rw c.deref-edges-items.ensures.value at c.edges-item.is in
    let within = rw c.deref-edges-items.ensures.value at c.loop-dimension-test.true in
    let at = told_at c.args.grid.now c.in_ok-lengths.lengths.items k c.edges-item.result c.in_ok-lengths.ensures within edges in
    let appends = rw (c.array_shape.ensures, c.grid_shape.ensures, c.is_bounded-bounded.ensures) at c.in_ok-append_dimension.ensures in
    let with_edges = next_edges c.args.grid.now c.in_ok-lengths.lengths.items k c.edges-item.result c.in_ok-lengths.ensures within edges in
    one_table_more grid_mark (length c.deref-edges-items.result.now) (grid_in c.args.grid.now).dimensions (grid_in c.args.grid.now).edges k
    c.loop-dimension.numbers.items c.append_dimension.new.numbers.items at.dimension (rectilinear_edges c.edges-item.result)
    c.loop-dimension.invariant at.next with_edges (appends at.dimension at.chain at.counts at.cut)

pub returns : goal.returns
returns c =
    let grid = grid_in c.args.grid.now in
    let lengths = c.in_ok-lengths.lengths.items in
    let items = c.deref-edges-items.result.now in
    let many : length items ≡ length grid.dimensions =
    rw c.deref-edges-items.ensures.value (as_many_edges c.args.grid.now lengths c.in_ok-lengths.ensures) in
    let edges : length grid.edges ≡ length lengths = sym (ap length c.in_ok-lengths.ensures) ∙ length-map lengths rectilinear_edges in
    let same : length items ≡ length lengths = ap length c.deref-edges-items.ensures.value in
    all_tables grid_mark (length items) grid.dimensions grid.edges c.loop-dimension.dimension c.loop-dimension.numbers.items
    c.loop-dimension.invariant (omega (arith, many, c.loop-dimension-test.false)) (omega (arith, edges, same, c.loop-dimension-test.false)) many
