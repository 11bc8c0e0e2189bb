use Rattle.std.proofs.Common.{◌≡◌, ◌-◌, arith}
use Rattle.std.proofs.lemmas.Nat.{leading_length}
use lib.Count.{count_leading_zeros}
use Rattle.zarrs_chunk_division.proofs.divisor.Divisor.new.Goals as goal

pub multiplier_of-requires-clause-least : goal.multiplier_of-requires-clause-least
multiplier_of-requires-clause-least c =
    let (bits, split, above, below) = leading_length 64 (c.get.result - 1) (omega arith) in
    let is : 64 - count_leading_zeros 64 (c.get.result - 1) ≡ bits = omega arith in
    rw is (omega arith)

pub multiplier_of-requires-clause-most : goal.multiplier_of-requires-clause-most
multiplier_of-requires-clause-most c =
    let (bits, split, above, below) = leading_length 64 (c.get.result - 1) (omega arith) in
    let is : 64 - count_leading_zeros 64 (c.get.result - 1) ≡ bits = omega arith in
    rw is (omega arith)
