use Rattle.std.proofs.Common.{◌≡◌, ◌∙◌, ◌+◌, ◌-◌, ◌*◌, ◌/◌, ◌%◌, arith, ap, sym}
use Rattle.std.proofs.lemmas.Nat.{mod_below}
use Rattle.std.specs.Int.NonZero.{non_zero_u64_get}
use Rattle.zarrs_chunk_tasks.specs.seen.Multiples.{multiples}
use Rattle.zarrs_chunk_tasks.proofs.EqualSteps.{all_or_none, one_step, reduced}
use Rattle.zarrs_chunk_tasks.proofs.multiples.multiples_among.Goals as goal

pub loop-rest-init : goal.loop-rest-init
loop-rest-init c =
    let of = non_zero_u64_get c.args.of in
    let first = mod_below c.args.first of c.args.of.ok in
    let step = mod_below c.args.step of c.args.of.ok in (
      rw (c.rem-step.ensures, c.rem-first.ensures) (sym (reduced of c.args.step c.args.first c.args.many c.args.of.ok)),
      omega (arith, c.rem-step.ensures, step),
      omega (arith, c.rem-first.ensures, first),
    )

pub loop-rest-preserved : goal.loop-rest-preserved
loop-rest-preserved c =
    let of = non_zero_u64_get c.loop-rest.of in
    let rest = non_zero_u64_get c.in-Some.rest in
    let step : rest ≡ c.loop-rest.step = c.in-Some.ensures {u = tt} in
    let behind = c.rem-behind.ensures ∙ ap (λ n. (n - c.loop-rest.first) % of) c.get.ensures.value in
    let same =
    one_step of rest c.loop-rest.first c.loop-rest.many c.rem-behind.result c.in-Some.rest.ok (omega (arith, step, c.loop-rest.invariant.1))
    c.loop-rest.invariant.2 behind
    in
    let before = ap (λ n. multiples of n c.loop-rest.first c.loop-rest.many) step in
    let many = c.reached-many.ensures ∙ ap (λ n. (c.loop-rest.many * n + (of - 1 - c.rem-behind.result)) / of) (sym step) in
    let next = c.rem-step-in-Some.ensures ∙ ap (λ n. n % rest) c.get-in-Some.ensures.value in (
      rw (next, c.rem-first-in-Some.ensures, many) (sym same ∙ before ∙ c.loop-rest.invariant.0),
      omega (arith, c.rem-step-in-Some.ensures, mod_below c.get-in-Some.result rest c.in-Some.rest.ok),
      omega (arith, c.rem-first-in-Some.ensures, mod_below c.rem-behind.result rest c.in-Some.rest.ok),
    )

pub returns-then-first-eq0 : goal.returns-then-first-eq0
returns-then-first-eq0 c =
    let of = non_zero_u64_get c.loop-rest.of in
    let (all, _) = all_or_none of c.loop-rest.first c.loop-rest.many c.loop-rest.invariant.2 in
    let same = ap (λ n. multiples of n c.loop-rest.first c.loop-rest.many) (c.in_default.ensures {u = tt}) in
    omega (arith, c.loop-rest.invariant.0, same, all c.if-first-eq0.true)

pub returns-else-first-eq0 : goal.returns-else-first-eq0
returns-else-first-eq0 c =
    let of = non_zero_u64_get c.loop-rest.of in
    let (_, none) = all_or_none of c.loop-rest.first c.loop-rest.many c.loop-rest.invariant.2 in
    let same = ap (λ n. multiples of n c.loop-rest.first c.loop-rest.many) (c.in_default.ensures {u = tt}) in
    omega (arith, c.loop-rest.invariant.0, same, none (omega (arith, c.if-first-eq0.false)))
