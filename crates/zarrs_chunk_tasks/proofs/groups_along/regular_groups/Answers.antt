use Rattle.std.proofs.Common.{◌≡◌, ◌*◌, arith, ap₂, refl}
use Rattle.std.specs.Int.NonZero.{non_zero_u64_get}
use Rattle.zarrs_chunk_axes.specs.Along.{IsRegular}
use Rattle.zarrs_chunk_tasks.proofs.RegularSums.{are_full}
use Rattle.zarrs_chunk_tasks.proofs.SumsAlong.{one, one_of}
use Rattle.zarrs_chunk_tasks.proofs.groups_along.regular_groups.Goals as goal

pub returns-clause-regular : goal.returns-clause-regular
returns-clause-regular g c =
    let groups = c.args.groups.now in
    let edge = c.in_ok-edge.edge in
    let b = non_zero_u64_get edge in
    let k = non_zero_u64_get groups.each in
    let it = one_of _ _ groups.dimension (g.met.K.ChunkGridTraits.chained groups.grid.now) c.requires.groups in
    let other = one _ groups.dimension (g.met.G.ChunkGridTraits.chained c.args.other.now) c.requires.other in
    let taking = it.at _ c.requires.groups in
    let regular = it.at (λ d. IsRegular d b) (c.in_ok-edge.ensures {u = tt}) in
    let other_regular = other.at (λ d. IsRegular d (non_zero_u64_get c.in_ok-other_edge.other_edge)) (c.in_ok-other_edge.ensures {u = tt}) in
    let full = are_full it.d k b (b * k) groups.at groups.size groups.group groups.groups groups.first groups.last it.chain groups.each.ok edge.ok refl regular
    taking (omega (arith, c.if-groups-lt3.false))
    in
    let product = ap₂ (λ m n. m * n) c.get.ensures.value c.get-2.ensures.value in
    let long : c.saturating_mul.result ≡ b * k = omega (arith, c.saturating_mul.ensures, product, full.long_fits, taking.over.fits) in
    it.back _ (other.back _ (record { edge = (b, edge.ok, regular, long); other_edge = other_regular }))
