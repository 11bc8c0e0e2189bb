use Rattle.std.proofs.Common.{◌≡◌, length, arith}
use Rattle.std.proofs.lemmas.Slice.Zip.{AllZip-long}
use Rattle.zarrs_chunk_base.proofs.InEach.{mapped}
use Rattle.zarrs_chunk_axes.proofs.MadeSoFar.{none_made, one_made, all_made, all_told, edges_accepted}
use Rattle.zarrs_chunk_axes.proofs.axis_grid.axes_of.Goals as goal

pub loop-array_size-init : goal.loop-array_size-init
loop-array_size-init g c =
    let sizes : c.into_iter-array_size-iterator.result.a.rest.now ≡ c.args.array_shape.now = cc in
    let configurations : c.into_iter-array_size-iterator.result.b.rest.now ≡ c.args.configurations.now = cc in
    rw (sizes, configurations, c.in_ok-axes.ensures.items) (none_made _ _ _ _ _ _ _ ((edges_accepted _ _ _ _).1 c.requires))

pub new-requires : goal.new-requires
new-requires g c =
    let (sizes, configurations) = c.in-Some.ensures.steps in
    let so_far = rw (sizes, configurations) at c.loop-array_size.invariant in
    so_far.accepted_left.0

pub loop-array_size-preserved : goal.loop-array_size-preserved
loop-array_size-preserved g c =
    let (sizes, configurations) = c.in-Some.ensures.steps in
    let so_far = rw (sizes, configurations) at c.loop-array_size.invariant in
    rw c.in_ok-push.ensures.items (one_made _ _ _ _ _ _ _ _ _ _ _ _ _ so_far c.in_ok-new.ensures.made c.in_ok-new.ensures.edges)

pub returns-clause-made : goal.returns-clause-made
returns-clause-made g c =
    let lengths = AllZip-long _ _ _ c.loop-array_size.invariant.accepted_left in
    let none : length c.loop-array_size.array_size-iterator.a.rest.now ≡ 0 = grind (arith, c.in-None.ensures.steps, lengths) in
    mapped g.A.AxisFrom.tells g.A.AxisFrom.is_made_of _ _ _ (all_made _ _ _ _ _ _ _ _ _ _ c.loop-array_size.invariant none)

pub returns-clause-edges : goal.returns-clause-edges
returns-clause-edges g c =
    let lengths = AllZip-long _ _ _ c.loop-array_size.invariant.accepted_left in
    let none : length c.loop-array_size.array_size-iterator.a.rest.now ≡ 0 = grind (arith, c.in-None.ensures.steps, lengths) in
    all_told _ _ _ _ _ _ _ _ _ _ c.loop-array_size.invariant none
