use Rattle.std.proofs.Common.{◌+◌, ◌/◌, arith}
use Rattle.std.proofs.Math.Nat.{div-mul-le_self}
use Rattle.zarrs_chunk_base.specs.Dimension.{Holds}
use Rattle.zarrs_chunk_axes.specs.Along.{IsRange}
use Rattle.zarrs_chunk_tasks.proofs.LeastStage.{part_is}
use Rattle.zarrs_chunk_tasks.proofs.SumsAlong.{one_of}
use Rattle.zarrs_chunk_tasks.proofs.least.part_along.Goals as goal

pub returns : goal.returns
returns g c =
    let at = c.args.at in
    let size = c.args.size in
    let chunk = c.in_ok-chunk.chunk in
    let middle = at + size / 2 in
    let here = rw (c.in_ok-chunk.ensures {u = tt}) at (c.in_ok-chunk_along.ensures {u = tt}) in
    let range = rw (c.in_ok-start.ensures {u = tt}) at (c.in_ok-range_along.ensures {u = tt}) in
    let it = one_of _ _ c.args.dimension (g.met.H.ChunkGridTraits.chained c.args.grid.now) here in
    it.back _
    (part_is it.d at size chunk c.in_ok-start.start c.in_ok-start.edge middle c.saturating_sub.result c.requires.fits (omega arith)
    (omega (arith, c.requires.some, div-mul-le_self size 2)) (it.at (λ d. Holds d chunk middle) here)
    (it.at (λ d. IsRange d chunk (c.in_ok-start.start, c.in_ok-start.edge)) range)
    (omega (arith, c.saturating_sub.ensures, c.min-end.ensures, c.saturating_add.ensures, c.max.ensures)))
