use Rattle.zarrs_chunk_plan.proofs.Common.{◌≡◌, ◌+◌, length, min, arith, greatest, row_major}
use Rattle.zarrs_chunk_plan.proofs.Plans.{covers_any, meet_each}
use Rattle.zarrs_chunk_plan.proofs.Taken.{some_of}
use Rattle.zarrs_chunk_parts.specs.Plan.{IsPart}
use Rattle.zarrs_chunk_plan.proofs.read.numbered_parts.some_parts.Goals as goal

pub parts_between-requires-clause-meet : goal.parts_between-requires-clause-meet
parts_between-requires-clause-meet g c =
    meet_each
    (covers_any (g.G.ChunkGridTraits.dimensions c.args.grid.now) c.args.array_subset.now c.in-Some.cover
    (g.met.G.ChunkGridTraits.chained c.args.grid.now) c.is_a_box.ensures
    (rw c.in-Some.is at c.in_ok-cover.ensures.empty) (rw c.in-Some.is at c.in_ok-cover.ensures.answers))

pub returns-clause-parts : goal.returns-clause-parts
returns-clause-parts g c =
    let ds = g.G.ChunkGridTraits.dimensions c.args.grid.now in
    let IsKey = g.E.ChunkKeyEncodingTraits.is_key c.args.encoding.now in
    let cover = c.in-Some.cover in
    let in_all = c.count_below-in_all.result in
    let counted : in_all ≡ min (length (row_major cover.shape)) greatest = rw c.shape.ensures.value at c.count_below-in_all.ensures in
    let ends : c.min-end.result ≡ min (min (c.args.first + c.args.most) greatest) in_all = omega arith in
    let (all, parts) =
    some_of (IsPart ds IsKey c.args.array_subset.now) cover c.args.first c.args.most c.min-end.result in_all c.in_ok-parts.parts.items counted ends
    c.in_ok-parts.ensures
    in
    record {
      cover = cover;
      is_cover = covers_any ds c.args.array_subset.now cover (g.met.G.ChunkGridTraits.chained c.args.grid.now) c.is_a_box.ensures
          (rw c.in-Some.is at c.in_ok-cover.ensures.empty) (rw c.in-Some.is at c.in_ok-cover.ensures.answers);
      counted = all;
      are_parts = parts;
    }
