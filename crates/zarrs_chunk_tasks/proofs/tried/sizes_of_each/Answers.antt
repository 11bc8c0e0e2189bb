use Rattle.std.proofs.Common.{◌∷◌, [], ◌<◌, Vec, Global, arith, length, take_all}
use Rattle.std.proofs.lemmas.List.{map-append}
use Rattle.zarrs_chunk_tasks.specs.declared.sizes.Size.{Size}
use Rattle.zarrs_chunk_tasks.specs.seen.Sizes.{AreSizes, sides}
use Rattle.zarrs_chunk_tasks.proofs.SideCounts.{as_many_sides}
use Rattle.zarrs_chunk_tasks.proofs.TriedSizes.{grouped_many, rows_more}
use Rattle.zarrs_chunk_tasks.proofs.tried.sizes_of_each.Goals as goal

pub loop-dimension-preserved : goal.loop-dimension-preserved
loop-dimension-preserved g c =
    let copied = c.args.copied.now in
    let grouped = c.args.grouped.now in
    let source = g.G.ChunkGridTraits.dimensions copied.source.now in
    let target = g.H.ChunkGridTraits.dimensions copied.target.now in
    let k = c.loop-dimension.dimension in
    let many = grouped_many g.H.ChunkGridTraits.dimensions source target copied.first.now grouped.elements.now.start grouped c.requires.grouped in
    let long = c.requires.grouped.long in
    let within : k < length target = omega (arith, c.loop-dimension-test.true, long.each_long, long.target_long) in
    let along = c.groups_along-along.ensures in
    let here = rw (along.grid, along.dimension, along.at, along.size, along.first, along.last, c.requires.same) at (c.in_ok-sizes_along.ensures {u = tt}) in
    rw ((c.in_ok-push.ensures {u = tt}).items, map-append (λ (row : Vec Size Global). row.items) c.loop-dimension.rows.items (c.in_ok-sizes_along.field-0 ∷ []))
    (rows_more (AreSizes c.args.are_all) source target copied.first.now grouped.elements.now.start grouped.elements.now.shape grouped.cover.start grouped.last.items k _ _ many within
    c.loop-dimension.invariant here)

pub returns : goal.returns
returns g c =
    let copied = c.args.copied.now in
    let grouped = c.args.grouped.now in
    let source = g.G.ChunkGridTraits.dimensions copied.source.now in
    let target = g.H.ChunkGridTraits.dimensions copied.target.now in
    let many = grouped_many g.H.ChunkGridTraits.dimensions source target copied.first.now grouped.elements.now.start grouped c.requires.grouped in
    let long = c.requires.grouped.long in
    let all = sides source target copied.first.now grouped.elements.now.start grouped.elements.now.shape grouped.cover.start grouped.last.items in
    let whole = take_all c.loop-dimension.dimension all
    (omega (
      arith,
      c.loop-dimension-test.false,
      long.each_long,
      long.target_long,
      as_many_sides source target copied.first.now grouped.elements.now.start grouped.elements.now.shape grouped.cover.start grouped.last.items many,
    ))
    in
    rw whole at c.loop-dimension.invariant
