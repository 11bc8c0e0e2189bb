use Rattle.zarrs_chunk_plan.proofs.Common.{◌≡◌, ◌+◌, ◌*◌, suc, arith, get_or, sym, Contains-get_or, source_of}
use Rattle.zarrs_chunk_plan.proofs.bytes.RangeStarts.{repeated_more, to_repeated}
use Rattle.zarrs_chunk_plan.proofs.bytes.range_starts.repeated.Goals as goal

pub returns-in_default : goal.returns-in_default
returns-in_default c =
    let numbers = c.args.numbers.now in
    let first = get_or numbers 0 0 in (
      first + c.loop-times.times * c.args.stride,
      to_repeated c.args.stride numbers c.args.count c.loop-times.times first c.loop-times-test.true (Contains-get_or numbers 0 0 c.requires),
      omega (arith, c.in_default.ensures),
    )

pub returns-in-None : goal.returns-in-None
returns-in-None c =
    let numbers = c.args.numbers.now in
    let (n, among, past) = rw c.in-None.is at c.in_ok-next.ensures in
    let (x, has, is) = source_of (λ n. n + c.in-Some.shift) numbers n among in
    let shift_is = c.in-Some.ensures.1 in (
      x + c.loop-times.times * c.args.stride,
      to_repeated c.args.stride numbers c.args.count c.loop-times.times x c.loop-times-test.true has,
      omega arith,
    )

pub loop-times-preserved : goal.loop-times-preserved
loop-times-preserved c =
    let next = rw c.in-Some-2.is at c.in_ok-next.ensures in
    let one : c.loop-times.times + 1 ≡ suc c.loop-times.times = omega arith in
    rw (c.in_ok-extend_from_slice-in-Some-2.ensures.items, c.deref.ensures.value, next, c.in-Some.ensures.1, c.loop-times.invariant, one)
    (sym (repeated_more c.args.stride c.loop-times.times c.args.numbers.now))
