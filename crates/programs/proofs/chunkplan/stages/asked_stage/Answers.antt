use Rattle.programs.proofs.chunkplan.Common.{◌≡◌, ◌∙◌, ℕ, ap, arith, length, option_map, refl, slice_get, suc, zero, Some, non_zero_u64_get}
use Rattle.std.proofs.lemmas.Option.{slice_get-map, slice_get_read}
use Rattle.std.specs.Prelude.{pred, ◌-◌}
use Rattle.programs.specs.chunkplan.seen.Routes.{stage_of}
use Rattle.programs.proofs.chunkplan.stages.asked_stage.Goals as goal

one_less : (n : ℕ) → n - 1 ≡ pred n
one_less zero = refl
one_less (suc n) = omega arith

pub returns-in-Some-get : goal.returns-in-Some-get
returns-in-Some-get c =
    let stages = c.args.stages.now in
    let stage = c.in-Some-get.stage.now in
    let n = c.get.result in
    let at : slice_get stages (n - 1) ≡ Some stage =
    slice_get_read stages (length stages) (n - 1) stage refl c.in-Some-get.ensures.lookup.3.0 c.in-Some-get.ensures.lookup.1 in
    rw c.in-Some.is
    (slice_get-map stage_of stages (pred (non_zero_u64_get c.in-Some.number))
    ∙ ap (option_map stage_of) (rw (one_less n, c.get.ensures.value) at at))
