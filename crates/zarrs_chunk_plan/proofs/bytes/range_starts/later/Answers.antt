use Rattle.zarrs_chunk_plan.proofs.Common.{◌+◌, arith, get_or, Contains-get_or, made_of}
use Rattle.zarrs_chunk_plan.proofs.bytes.range_starts.later.Goals as goal

pub returns-in-None : goal.returns-in-None
returns-in-None c =
    let numbers = c.args.numbers.now in
    let i = c.loop-number.number-index in (
      get_or numbers i 0 + c.args.shift,
      made_of (λ n. n + c.args.shift) numbers (get_or numbers i 0) (Contains-get_or numbers i 0 c.loop-number-test.true),
      omega (arith, c.in-None.ensures),
    )
