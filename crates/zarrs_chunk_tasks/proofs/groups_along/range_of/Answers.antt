use Rattle.std.proofs.Common.{◌≡◌, arith, sym, subst}
use Rattle.std.specs.Int.NonZero.{non_zero_u64_get}
use Rattle.zarrs_chunks.proofs.Chains.{at_most_start}
use Rattle.zarrs_chunk_tasks.specs.seen.Counts.{IsTaken}
use Rattle.zarrs_chunk_tasks.proofs.GroupBoxes.{first_in, last_in, reaching}
use Rattle.zarrs_chunk_tasks.proofs.SumsAlong.{one_of, taken_is}
use Rattle.zarrs_chunk_tasks.proofs.groups_along.range_of.Goals as goal

pub returns : goal.returns
returns g c = λ is_over takes_some.
    let groups = c.args.groups.now in
    let k = non_zero_u64_get groups.each in
    let t = c.args.group in
    let it = one_of _ _ groups.dimension (g.met.K.ChunkGridTraits.chained groups.grid.now) is_over in
    let over = it.at _ is_over in
    let takes = it.at _ takes_some in
    let is = reaching it.d k groups.at groups.size groups.first groups.last t it.chain over.some over.low over.high takes in
    let fits = over.fits in
    let high = over.high in
    let small = at_most_start it.d it.chain groups.last high.chunk in
    let begins = is.begins in
    let from = high.from in
    let some = over.some in
    let first_is : c.first_chunk-first.result ≡ first_in k groups.first t = omega (arith, c.first_chunk-first.ensures) in
    let last_is : c.last_chunk-last.result ≡ last_in k groups.last t = omega (arith, c.last_chunk-last.ensures) in
    let range = it.at _ (rw (c.in_ok-start.ensures {u = tt}) at (c.in_ok-range_along.ensures {u = tt})) in
    let last_range = it.at _ (rw (c.in_ok-last_start.ensures {u = tt}) at (c.in_ok-range_along-2.ensures {u = tt})) in
    let taken = taken_is it.d k groups.at groups.size groups.first groups.last t _ _ _ _ c.saturating_sub-before.result c.min-end.result is fits
    (rw first_is at range) (rw last_is at last_range) c.saturating_sub-before.ensures
    (omega (arith, c.min-end.ensures, c.saturating_sub.ensures, c.saturating_add.ensures))
    in
    it.back _ (subst (λ many. IsTaken it.d k groups.at groups.size t (c.saturating_sub-before.result, many)) (sym c.saturating_sub-2.ensures) taken)
