use Rattle.std.proofs.Common.{◌^◌, arith}
use Rattle.std.proofs.lemmas.Nat.{mul-le}
use Rattle.zarrs_chunk_questions.proofs.limits.Limits.new.Goals as goal

pub overflow_mul-least-2 : goal.overflow_mul-least-2
overflow_mul-least-2 c =
    let lists = c.ranges.lists.fits in
    let width = c.ranges.width.fits in
    let most = mul-le c.args.lists c.args.width (2 ^ 8) (2 ^ 64) (omega arith) (omega arith) in
    omega arith

pub overflow_add-least : goal.overflow_add-least
overflow_add-least c =
    let lists = c.ranges.lists.fits in
    let width = c.ranges.width.fits in
    let most = mul-le c.args.lists c.args.width (2 ^ 8) (2 ^ 64) (omega arith) (omega arith) in
    omega arith
