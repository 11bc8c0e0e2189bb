use Rattle.std.proofs.Common.{ℕ, ◌-◌, ◌*◌, ◌+◌, ◌^◌, ◌<◌, ◌≤◌, arith}
use Rattle.std.proofs.lemmas.Nat.{row_fits}
use Rattle.zarrs_chunk_tasks.proofs.multiples.reached.Goals as goal

-- a product of two numbers of 64 digits leaves room for another one
small_product : (m n : ℕ) → m < 2 ^ 64 → n < 2 ^ 64 → m * n + n ≤ 2 ^ 64 * (2 ^ 64 - 1)
small_product m n first second = row_fits m n (2 ^ 64) (2 ^ 64 - 1) first (omega (arith, second))

pub overflow_mul-steps : goal.overflow_mul-steps
overflow_mul-steps c =
    let product = small_product c.args.many c.args.step (omega (arith, c.ranges.many.fits)) (omega (arith, c.ranges.step.fits)) in
    rw (c.from.ensures, c.from-2.ensures) (omega (arith, product))
