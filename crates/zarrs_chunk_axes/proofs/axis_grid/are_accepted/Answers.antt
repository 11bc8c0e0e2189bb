use Rattle.std.proofs.Common.{◌≡◌, length, refl, sym, true≢false, arith}
use Rattle.std.proofs.lemmas.Slice.Zip.{AllZip-long}
use Rattle.zarrs_chunk_axes.proofs.MadeSoFar.{none_accepted, one_accepted, all_accepted, edges_accepted}
use Rattle.zarrs_chunk_axes.proofs.axis_grid.are_accepted.Goals as goal

pub returns-then-array_shape-configurations : goal.returns-then-array_shape-configurations
returns-then-array_shape-configurations g c =
    (λ t. absurd (true≢false (sym t)), λ all. absurd (omega (arith, AllZip-long _ _ _ ((edges_accepted _ _ _ _).1 all))))

pub loop-array_size-init : goal.loop-array_size-init
loop-array_size-init g c =
    let sizes : c.into_iter-array_size-iterator.result.a.rest.now ≡ c.args.array_shape.now = cc in
    let configurations : c.into_iter-array_size-iterator.result.b.rest.now ≡ c.args.configurations.now = cc in
    rw (sizes, configurations) (none_accepted _ _ _ (omega arith))

pub returns-then-not-accepts : goal.returns-then-not-accepts
returns-then-not-accepts g c =
    let (sizes, configurations) = c.in-Some.ensures.steps in
    let so_far = rw (sizes, configurations) at c.loop-array_size.invariant in
    (λ t. absurd (true≢false (sym t)), λ all. absurd (true≢false (sym (c.if-not-accepts.ensures.1 (so_far.rest ((edges_accepted _ _ _ _).1 all)).0))))

pub loop-array_size-preserved : goal.loop-array_size-preserved
loop-array_size-preserved g c =
    let (sizes, configurations) = c.in-Some.ensures.steps in
    let so_far = rw (sizes, configurations) at c.loop-array_size.invariant in
    one_accepted _ _ _ _ _ _ _ so_far (c.if-not-accepts.ensures.0 refl)

pub returns : goal.returns
returns g c =
    let lengths = c.loop-array_size.invariant.lengths in
    let none : length c.loop-array_size.array_size-iterator.a.rest.now ≡ 0 = grind (arith, c.in-None.ensures.steps, lengths) in
    (λ t. (edges_accepted _ _ _ _).0 (all_accepted _ _ _ _ _ c.loop-array_size.invariant none), λ all. refl)
