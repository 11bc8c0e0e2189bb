use Rattle.std.proofs.Common.{◌≡◌, ◌∙◌, ◌+◌, ◌-◌, ◌%◌, ◌/◌, ◌^◌, ap, arith}
use Rattle.std.proofs.lemmas.Nat.{and_mask}
use Rattle.std.specs.Int.Bits.{bit_and}
use Rattle.zarrs_chunk_prepared.proofs.search.step.Goals as goal

pub returns-clause-up_to : goal.returns-clause-up_to
returns-clause-up_to c up_to =
    let fits = c.ranges.places.fits in
    let sought = c.ranges.sought.fits in
    let zero : (c.from.result + (2 ^ 128 - c.from-2.result)) % 2 ^ 128 / 2 ^ 64 ≡ 0 = omega (arith, c.from.ensures, c.from-2.ensures) in
    let whole : c.args.places % 2 ^ 64 ≡ c.args.places = omega arith in
    ap (λ n. bit_and c.args.places (2 ^ 64 - 1 - n)) zero ∙ and_mask c.args.places 64 ∙ whole
