use Rattle.std.proofs.Common.{◌≡◌, ◌+◌, arith, refl, subst, sym}
use Rattle.std.specs.Int.NonZero.{non_zero_u64_get}
use Rattle.zarrs_chunk_plan.specs.seen.Sources.{TakesSome}
use Rattle.zarrs_chunk_tasks.specs.seen.Counts.{AreMetAlong, IsTaken}
use Rattle.zarrs_chunk_tasks.specs.seen.Grouped.{grouped}
use Rattle.zarrs_chunk_tasks.proofs.SumsAlong.{none_so_far, one, one_more, one_of, some_take, takes_at, takes_here}
use Rattle.zarrs_chunk_tasks.proofs.groups_along.sums_one_by_one.Goals as goal

pub loop-steps-init : goal.loop-steps-init
loop-steps-init g c =
    let groups = c.args.groups.now in
    let it = one_of _ _ groups.dimension (g.met.K.ChunkGridTraits.chained groups.grid.now) c.requires.groups in
    let other = one _ groups.dimension (g.met.G.ChunkGridTraits.chained c.args.other.now) c.requires.other in
    it.back _
    (other.back _ (none_so_far (non_zero_u64_get groups.each) groups.at groups.size (groups.group + c.args.before) c.args.first it.d other.d _ refl refl refl))

pub met_along-requires-clause-some : goal.met_along-requires-clause-some
met_along-requires-clause-some g c =
    let groups = c.args.groups.now in
    let it = one_of _ _ groups.dimension (g.met.K.ChunkGridTraits.chained groups.grid.now) c.requires.groups in
    let taking = it.at _ c.requires.groups in
    let (_, takes) = takes_at it.d (non_zero_u64_get groups.each) groups.at groups.size groups.first groups.last groups.group groups.groups c.args.before c.args.many
    c.loop-steps.steps _ _ taking c.requires.many c.loop-steps-test.true c.saturating_add.ensures c.saturating_add-group.ensures
    in
    let is = it.at _ (c.in_ok-before.ensures (it.back _ taking.over) (it.back _ takes)) in
    omega (arith, is.many, takes.1)

pub met_along-requires-clause-fits : goal.met_along-requires-clause-fits
met_along-requires-clause-fits g c =
    let groups = c.args.groups.now in
    let it = one_of _ _ groups.dimension (g.met.K.ChunkGridTraits.chained groups.grid.now) c.requires.groups in
    let taking = it.at _ c.requires.groups in
    let (_, takes) = takes_at it.d (non_zero_u64_get groups.each) groups.at groups.size groups.first groups.last groups.group groups.groups c.args.before c.args.many
    c.loop-steps.steps _ _ taking c.requires.many c.loop-steps-test.true c.saturating_add.ensures c.saturating_add-group.ensures
    in
    let is = it.at _ (c.in_ok-before.ensures (it.back _ taking.over) (it.back _ takes)) in
    omega (arith, is.before, is.many, takes.1, c.saturating_add-from.ensures, c.requires.first)

pub loop-steps-preserved : goal.loop-steps-preserved
loop-steps-preserved g c =
    let groups = c.args.groups.now in
    let it = one_of _ _ groups.dimension (g.met.K.ChunkGridTraits.chained groups.grid.now) c.requires.groups in
    let taking = some_take (non_zero_u64_get groups.each) groups.at groups.size groups.first groups.last groups.group groups.groups c.args.before c.args.many it.d
    (it.at _ c.requires.groups) c.requires.many
    in
    let k = non_zero_u64_get groups.each in
    let other = one _ groups.dimension (g.met.G.ChunkGridTraits.chained c.args.other.now) c.requires.other in
    let so_far = other.at _ (it.at _ c.loop-steps.invariant) in
    let group_is : groups.group + c.args.before + c.loop-steps.steps ≡ c.saturating_add-group.result =
    omega (arith, c.saturating_add-group.ensures, c.saturating_add.ensures, taking.groups_fit, c.loop-steps-test.true) in
    let takes = takes_here it.d (non_zero_u64_get groups.each) groups.at groups.size groups.first groups.last (groups.group + c.args.before) c.args.many
    c.loop-steps.steps taking c.loop-steps-test.true in
    let takes_that = subst (TakesSome (grouped it.d k) groups.at groups.size) group_is takes in
    let is = it.at _ (c.in_ok-before.ensures (it.back _ taking.over) (it.back _ takes_that)) in
    let is_here = subst (λ t. IsTaken it.d k groups.at groups.size t (c.in_ok-before.before, c.in_ok-before.size)) (sym group_is) is in
    let from : c.saturating_add-from.result ≡ c.args.first + c.in_ok-before.before =
    omega (arith, is_here.before, is_here.many, takes.1, c.saturating_add-from.ensures, c.requires.first) in
    let met = other.at _ (c.in_ok-met.ensures {u = tt}) in
    it.back _
    (other.back _
    (one_more it.d other.d k groups.at groups.size groups.first groups.last (groups.group + c.args.before) c.args.many c.args.first c.loop-steps.steps it.chain
    groups.each.ok taking c.loop-steps-test.true c.in_ok-before.before c.in_ok-before.size is_here c.in_ok-met.met
    (subst (λ n. AreMetAlong other.d n c.in_ok-before.size c.in_ok-met.met) from met) c.loop-steps.sums _ so_far (omega (arith, c.max.ensures))
    c.saturating_add-in-loop-steps.ensures c.saturating_add-in-loop-steps-2.ensures))

pub returns : goal.returns
returns g c =
    let groups = c.args.groups.now in
    let it = one_of _ _ groups.dimension (g.met.K.ChunkGridTraits.chained groups.grid.now) c.requires.groups in
    let other = one _ groups.dimension (g.met.G.ChunkGridTraits.chained c.args.other.now) c.requires.other in
    let so_far = other.at _ (it.at _ c.loop-steps.invariant) in
    let ended : c.loop-steps.steps ≡ c.args.many = omega (arith, c.loop-steps-test.false, c.loop-steps.auto.steps-end) in
    it.back _ (other.back _ (rw ended at so_far))
