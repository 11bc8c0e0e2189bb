use Rattle.std.proofs.Common.{◌∙◌, ◌-◌, ◌/◌, min, arith, ap, refl}
use Rattle.std.specs.Int.NonZero.{non_zero_u64_get}
use Rattle.zarrs_chunk_base.specs.Greatest.{greatest}
use Rattle.zarrs_chunk_tasks.specs.seen.Multiples.{in_ranges}
use Rattle.zarrs_chunk_tasks.proofs.RegularSums.{full_along, start_is, sums_are}
use Rattle.zarrs_chunk_tasks.proofs.SumsAlong.{one_of}
use Rattle.zarrs_chunk_tasks.proofs.groups_along.sums_between.Goals as goal

pub chunks_of_ranges-chunks-requires-clause-long : goal.chunks_of_ranges-chunks-requires-clause-long
chunks_of_ranges-chunks-requires-clause-long g c =
    let groups = c.args.groups.now in
    let full = full_along _ _ groups.dimension (non_zero_u64_get groups.each) groups.at groups.size groups.group groups.groups groups.first groups.last
    c.args.regular.now (g.met.K.ChunkGridTraits.chained groups.grid.now) (g.met.G.ChunkGridTraits.chained c.args.other.now) groups.each.ok c.requires.some
    c.requires.groups c.requires.regular
    in
    full.some

pub chunks_of_ranges-chunks-requires-clause-fits : goal.chunks_of_ranges-chunks-requires-clause-fits
chunks_of_ranges-chunks-requires-clause-fits g c =
    let groups = c.args.groups.now in
    let full = full_along _ _ groups.dimension (non_zero_u64_get groups.each) groups.at groups.size groups.group groups.groups groups.first groups.last
    c.args.regular.now (g.met.K.ChunkGridTraits.chained groups.grid.now) (g.met.G.ChunkGridTraits.chained c.args.other.now) groups.each.ok c.requires.some
    c.requires.groups c.requires.regular
    in
    let it = one_of _ _ groups.dimension (g.met.K.ChunkGridTraits.chained groups.grid.now) c.requires.groups in
    let taking = it.at _ c.requires.groups in
    let start =
    start_is groups.at groups.size groups.group groups.groups c.args.first c.args.regular.now.long c.saturating_add.result c.saturating_mul-begin.result
    c.saturating_add-start.result full taking.over.fits c.requires.first taking.groups_fit c.requires.some c.saturating_add.ensures c.saturating_mul-begin.ensures
    (omega (arith, c.saturating_add-start.ensures, c.saturating_sub.ensures))
    in
    omega (arith, start, full.fits, c.requires.first)

pub overflow_sub-groups : goal.overflow_sub-groups
overflow_sub-groups g c =
    let groups = c.args.groups.now in
    let it = one_of _ _ groups.dimension (g.met.K.ChunkGridTraits.chained groups.grid.now) c.requires.groups in
    let taking = it.at _ c.requires.groups in
    taking.over.some

pub nonzero_div-saturating_sub : goal.nonzero_div-saturating_sub
nonzero_div-saturating_sub g c =
    let groups = c.args.groups.now in
    let full = full_along _ _ groups.dimension (non_zero_u64_get groups.each) groups.at groups.size groups.group groups.groups groups.first groups.last
    c.args.regular.now (g.met.K.ChunkGridTraits.chained groups.grid.now) (g.met.G.ChunkGridTraits.chained c.args.other.now) groups.each.ok c.requires.some
    c.requires.groups c.requires.regular
    in
    full.some

pub returns : goal.returns
returns g c =
    let groups = c.args.groups.now in
    let full = full_along _ _ groups.dimension (non_zero_u64_get groups.each) groups.at groups.size groups.group groups.groups groups.first groups.last
    c.args.regular.now (g.met.K.ChunkGridTraits.chained groups.grid.now) (g.met.G.ChunkGridTraits.chained c.args.other.now) groups.each.ok c.requires.some
    c.requires.groups c.requires.regular
    in
    let it = one_of _ _ groups.dimension (g.met.K.ChunkGridTraits.chained groups.grid.now) c.requires.groups in
    let taking = it.at _ c.requires.groups in
    let start =
    start_is groups.at groups.size groups.group groups.groups c.args.first c.args.regular.now.long c.saturating_add.result c.saturating_mul-begin.result
    c.saturating_add-start.result full taking.over.fits c.requires.first taking.groups_fit c.requires.some c.saturating_add.ensures c.saturating_mul-begin.ensures
    (omega (arith, c.saturating_add-start.ensures, c.saturating_sub.ensures))
    in
    let other = one_of _ _ groups.dimension (g.met.G.ChunkGridTraits.chained c.args.other.now) c.requires.other in
    let regular = other.at _ (it.at _ c.requires.regular) in
    let (b, some, is_regular, long_is) = regular.edge in
    let range = rw c.div-last.ensures at (other.at _ (rw (c.in_ok-last_start.ensures {u = tt}) at (c.in_ok-range_along.ensures {u = tt}))) in
    let before = c.min-before.ensures ∙ ap (λ n. min (n / c.args.regular.now.long) (groups.groups - 2))
    (c.saturating_sub-2.ensures ∙ ap (λ n. c.in_ok-last_start.last_start - n) start) in
    let chunks = c.chunks_of_ranges-chunks.ensures
    ∙ ap (λ n. min (in_ranges (non_zero_u64_get c.args.regular.now.edge) c.args.regular.now.long n (groups.groups - 2)) greatest) start in
    let are = sums_are it.d (non_zero_u64_get groups.each) b c.args.regular.now.long groups.at groups.size groups.group groups.groups groups.first groups.last
    it.chain groups.each.ok some long_is is_regular taking c.requires.some other.d (non_zero_u64_get c.args.regular.now.edge) c.args.first other.chain
    c.args.regular.now.edge.ok regular.other_edge (other.at _ c.requires.other) c.in_ok-last_start.last_start c.in_ok-last_start.last_edge c.min-before.result range
    before c.chunks_of_ranges-chunks.result c.requires.first chunks
    in
    let elements = c.elements_of-elements.ensures in
    it.back _ (other.back _ (are _ elements.edge_fits elements.last_fits refl refl elements.elements))
