use Rattle.std.proofs.Common.{arith}
use Rattle.zarrs_chunk_division.specs.seen.Divisor.{divisor_of}
use Rattle.zarrs_chunk_division.proofs.Quotients.{dropped, high_less, none_high, not_less, not_more}
use Rattle.zarrs_chunk_division.proofs.divisor.Divisor.div.Goals as goal

pub returns : goal.returns
returns c =
    let s = c.args.self.now in
    let number = c.args.number in
    let high = c.high_product-high in
    let divisor = divisor_of s in
    let is = s.is_multiplier in
    let within = high_less s.multiplier number high.result (omega arith) high.ensures.least in
    let none = none_high divisor s.multiplier s.first_shift s.second_shift number high.result is s.are_shifts (omega arith) (omega arith)
    high.ensures.least in
    let parts = dropped s.first_shift s.second_shift number high.result s.are_shifts within none in
    record {
      from = not_more divisor s.multiplier _ number high.result is.more is.close (omega arith) (omega arith) high.ensures.least high.ensures.most _
          parts.0;
      below = not_less divisor s.multiplier _ number high.result is.more is.close (omega arith) (omega arith) high.ensures.least high.ensures.most _
          parts.1;
    }
