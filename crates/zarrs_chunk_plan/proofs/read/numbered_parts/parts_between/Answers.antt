use Rattle.zarrs_chunk_plan.proofs.Common.{◌≡◌, ◌+◌, ◌-◌, ◌≤◌, drop, subst, sym, take, arith, AllZip, chunks_in, IsPart, Meets}
use Rattle.zarrs_chunk_plan.proofs.Taken.{of_place, one_more}
use Rattle.zarrs_chunk_plan.proofs.read.numbered_parts.parts_between.Goals as goal

pub loop-number-preserved : goal.loop-number-preserved
loop-number-preserved g c =
    let IsPartOf =
    IsPart (g.G.ChunkGridTraits.dimensions c.args.grid.now) (g.E.ChunkKeyEncodingTraits.is_key c.args.encoding.now) c.args.array_subset.now in
    let chunks = chunks_in c.args.chunks.now in
    let first = c.args.numbers.0 in
    let number = c.loop-number.number in
    let from : first ≤ number = c.loop-number.auto.number in
    let (within, are) = c.loop-number.invariant in
    let meets = of_place (Meets (g.G.ChunkGridTraits.dimensions c.args.grid.now) c.args.array_subset.now) _ _ c.in_ok-chunk.chunk.items
    c.requires.meet c.in_ok-chunk.ensures
    in (
      omega arith,
      subst (AllZip IsPartOf (take (number + 1 - first) (drop first chunks))) (sym c.in_ok-push.ensures.items)
          (one_more IsPartOf chunks first number c.in_ok-chunk.chunk.items c.in_ok-part_of.field-0 c.loop-number.parts.items
          from c.in_ok-chunk.ensures (c.in_ok-part_of.ensures.part meets) are),
    )

pub returns : goal.returns
returns g c =
    let IsPartOf =
    IsPart (g.G.ChunkGridTraits.dimensions c.args.grid.now) (g.E.ChunkKeyEncodingTraits.is_key c.args.encoding.now) c.args.array_subset.now in
    let chunks = chunks_in c.args.chunks.now in
    let first = c.args.numbers.0 in
    let (within, are) = c.loop-number.invariant in
    let all : c.loop-number.number - first ≡ c.args.numbers.1 - first = omega arith in
    subst (λ n. AllZip IsPartOf (take n (drop first chunks)) c.loop-number.parts.items) all are
