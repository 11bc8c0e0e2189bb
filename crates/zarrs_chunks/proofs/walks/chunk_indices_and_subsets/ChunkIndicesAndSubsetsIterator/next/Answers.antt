use Rattle.std.proofs.Common.{◌<◌, length, map, ap, rules, arith}
use Rattle.zarrs_chunks.specs.Walks.{box_at, boxed}
use Rattle.zarrs_chunks.specs.seen.Walks.{chunks_ahead}
use Rattle.zarrs_chunks.proofs.walks.chunk_indices_and_subsets.ChunkIndicesAndSubsetsIterator.next.Goals as goal

pub returns-in-Err-indices-clause-steps : goal.returns-in-Err-indices-clause-steps
returns-in-Err-indices-clause-steps g c = λ over.
    let dimensions = g.G.ChunkGridTraits.dimensions in
    let old = c.args.self.now.boxes in
    let new = c.indices.new.self in
    let fewer : length (chunks_ahead dimensions c.step.new.self) < length (chunks_ahead dimensions old) = search rules in
    let ds = dimensions new.grid.now in (
      c.indices.ensures.over (c.step.ensures.over over),
      (
        λ none. let empty = ap length none in absurd (omega arith),
        ap (λ left. map (λ chunk. (chunk, box_at ds chunk)) (boxed ds left)) c.in-Err-indices.ensures.ends,
        c.in-Err-indices.ensures.ends,
      ),
    )

pub returns-in-Err-indices-clause-goes : goal.returns-in-Err-indices-clause-goes
returns-in-Err-indices-clause-goes g c =
    let dimensions = g.G.ChunkGridTraits.dimensions in
    let fewer : length (chunks_ahead dimensions c.step.new.self) < length (chunks_ahead dimensions c.args.self.now.boxes) = search rules in
    let none = ap length c.in-Err-indices.ensures.ends in
    record { on = λ _. (tt, tt, omega arith); keeps = tt; rests = λ _. tt }
