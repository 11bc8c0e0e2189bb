use Rattle.std.proofs.Common.{string_bytes}
use Rattle.documents.specs.chunkwhere.Document.{lists_in}
use Rattle.documents.proofs.chunkwhere.Lines.{IsSoFar}
use Rattle.documents.proofs.chunkwhere.answer.lines.Given as goal

-- the text has the lines of the indices so far
abbrev pub invariant-loop-position : goal.invariant-loop-position
invariant-loop-position g l =
    let left = lists_in l.position-iterator.iter.rest.items in
    IsSoFar (g.G.ChunkGridTraits.dimensions l.grid) (g.E.ChunkKeyEncodingTraits.is_key l.encoding)
    (lists_in l.fn.indices.items) left l.position-iterator.count (string_bytes l.text)
