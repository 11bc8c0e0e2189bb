use Rattle.zarrs_chunk_plan.proofs.Common.{◌-◌, ◌≤◌, drop, max, take, AllZip, chunks_in, IsPart}
use Rattle.zarrs_chunk_plan.proofs.read.numbered_parts.parts_between.Given as goal

-- the parts so far are those of the chunks so far
abbrev pub invariant-loop-number : goal.invariant-loop-number
invariant-loop-number g l =
    (l.number ≤ max l.first l.end)
    × AllZip (IsPart (g.G.ChunkGridTraits.dimensions l.grid) (g.E.ChunkKeyEncodingTraits.is_key l.encoding) l.array_subset)
    (take (l.number - l.first) (drop l.first (chunks_in l.chunks))) l.parts.items
