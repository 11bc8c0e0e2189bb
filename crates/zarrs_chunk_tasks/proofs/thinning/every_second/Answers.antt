use Rattle.std.proofs.Common.{arith, length}
use Rattle.std.proofs.lemmas.Grind.{div_ceil_times}
use Rattle.zarrs_chunk_tasks.proofs.ThinnedRows.{all_halves, none_yet, one_more}
use Rattle.zarrs_chunk_tasks.proofs.thinning.every_second.Goals as goal

pub loop-half-init : goal.loop-half-init
loop-half-init g c = rw c.new-part.ensures.items (none_yet c.args.row.now)

pub loop-half-preserved : goal.loop-half-preserved
loop-half-preserved g c =
    let row = c.args.row.now in
    let halves = div_ceil_times (length row) 2 (omega arith) in
    one_more row c.loop-half.part.items _ c.loop-half.half c.index-row-half.result c.loop-half.invariant c.index-row-half.is
    (omega (arith, halves.1, c.div_ceil-half-end.ensures, c.loop-half-test.true)) (c.in_ok-push.ensures {u = tt}).items

pub returns-clause-fewer : goal.returns-clause-fewer
returns-clause-fewer g c = λ more.
    let halves = div_ceil_times (length c.args.row.now) 2 (omega arith) in
    omega (arith, halves.1, c.div_ceil-half-end.ensures, c.loop-half.invariant.long, c.loop-half.auto.half-end, more)

pub returns-clause-thinned : goal.returns-clause-thinned
returns-clause-thinned g c =
    let row = c.args.row.now in
    let halves = div_ceil_times (length row) 2 (omega arith) in
    all_halves row c.loop-half.part.items c.loop-half.half (λ some. omega (arith, halves.0, c.div_ceil-half-end.ensures, c.loop-half-test.false, some)) c.loop-half.invariant
