use Rattle.std.proofs.Common.{◌<◌, ◌≤◌, ◌+◌, get_or, length, ⊎_elim, arith}
use Rattle.std.proofs.lemmas.Bool.{cases_lt}
use Rattle.std.proofs.lemmas.Grind.{get_or_default_zero}
use Rattle.zarrs_chunk_base.specs.Greatest.{greatest}
use Rattle.zarrs_chunks.proofs.UpTo.{past_at}
use Rattle.zarrs_chunks.proofs.chunk_grid.boxes.sizes_up_to.Goals as goal

pub returns-in_err-sizes : goal.returns-in_err-sizes
returns-in_err-sizes c =
    let k = c.loop-dimension.dimension in
    let left = c.loop-dimension.invariant.2 k (omega arith) in
    let lengths = c.loop-dimension.invariant.0 in
    let as_many = c.requires.lengths in
    let counted : k < length c.loop-dimension.sizes.items = let within = c.loop-dimension-test.true in omega arith in
    let read = get_or_default_zero c.loop-dimension.sizes.items k c.index.result.now counted in
    let past : greatest < get_or c.args.last_start.now k 0 + get_or c.args.sizes.items k 0 = ⊎_elim
    (λ (fits : c.saturating_sub-before.result + c.index.result.now < 18446744073709551616). absurd (c.in_err-sizes.ensures fits))
    (λ (over : 18446744073709551616 ≤ c.saturating_sub-before.result + c.index.result.now).
    omega (arith, c.saturating_sub-before.ensures, c.index.ensures, read, left))
    (cases_lt (c.saturating_sub-before.result + c.index.result.now) 18446744073709551616) in
    rw c.from_residual.ensures (past_at c.args.last_start.now c.args.sizes.items k c.requires.lengths c.loop-dimension-test.true past)
