use Rattle.std.proofs.Common.{◌<◌, arith}
use Rattle.std.proofs.lemmas.Result.{on_ok_weaker}
use Rattle.std.specs.Int.NonZero.{non_zero_u64_get}
use Rattle.zarrs_chunk_prepared.proofs.EdgeTables.{appended_bounded, appended_empty, appended_equal}
use Rattle.zarrs_chunk_prepared.proofs.write.append_edge.Goals as goal

pub returns-then-not-bounded : goal.returns-then-not-bounded
returns-then-not-bounded c =
    on_ok_weaker c.append_row.result
    (λ wrote d chain counts cut.
    appended_equal c.args.numbers.now.items c.append_row.new.numbers.items d c.args.size c.args.count (non_zero_u64_get c.args.edge) c.args.bounded
    chain counts c.args.edge.ok cut c.if-not-bounded.true (rw c.get.ensures.value at wrote))
    c.append_row.ensures

pub returns-then-size-eq0 : goal.returns-then-size-eq0
returns-then-size-eq0 c =
    on_ok_weaker c.append_row-then-size-eq0.result
    (λ wrote d chain counts cut.
    appended_empty c.args.numbers.now.items c.append_row-then-size-eq0.new.numbers.items d c.args.size c.args.count (non_zero_u64_get c.args.edge)
    c.args.bounded chain counts c.args.edge.ok cut c.if-not-bounded.false c.if-size-eq0.true wrote)
    c.append_row-then-size-eq0.ensures

pub returns : goal.returns
returns c =
    let fits = c.ranges.size.fits in
    let some : 0 < c.args.size = omega (arith, c.if-size-eq0.false) in
    on_ok_weaker c.append_row-2.result
    (λ wrote d chain counts cut.
    appended_bounded c.args.numbers.now.items c.append_row-2.new.numbers.items d c.args.size c.args.count (non_zero_u64_get c.args.edge)
    c.args.bounded chain counts c.args.edge.ok cut c.if-not-bounded.false some (omega arith)
    (rw (c.get-2.ensures.value, c.saturating_sub-last_chunk.ensures) at wrote))
    c.append_row-2.ensures
