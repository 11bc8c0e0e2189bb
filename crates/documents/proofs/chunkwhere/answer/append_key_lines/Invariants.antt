use Rattle.std.proofs.Common.{◌≡◌, ℕ, List, ◌++◌, map, string_bytes}
use Rattle.documents.specs.chunkwhere.Output.{IsKeyLine}
use Rattle.documents.proofs.chunkwhere.Lines.{HasLines}
use Rattle.documents.proofs.chunkwhere.answer.append_key_lines.Given as goal

-- the lines of the keys so far were appended
abbrev pub invariant-loop-key : goal.invariant-loop-key
invariant-loop-key g l =
    (lines : List ℕ)
    × HasLines (IsKeyLine l.dimensionality (g.E.ChunkKeyEncodingTraits.is_key l.encoding)) (map string_bytes l.fn.keys.items)
    (map string_bytes l.key-iterator.rest.items) lines
    × (string_bytes l.text ≡ string_bytes l.initial.text ++ lines)
