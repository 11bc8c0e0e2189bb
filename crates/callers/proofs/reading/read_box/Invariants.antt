use Rattle.std.proofs.Common.{List}
use Rattle.std.specs.List.{AllZip}
use Rattle.zarrs_chunk_plan.proofs.Walked.{HaveCome}
use Rattle.zarrs_chunk_parts.specs.declared.part.Part.{Part}
use Rattle.callers.specs.Reading.{IsRead}
use Rattle.callers.proofs.reading.read_box.Given as goal

-- there is a piece for each part that came
abbrev pub invariant-loop-part : goal.invariant-loop-part
invariant-loop-part g l =
    (came : List Part) × HaveCome g.G.ChunkGridTraits.dimensions g.E.ChunkKeyEncodingTraits.is_key l.initial.part-iterator l.part-iterator came
    × AllZip (IsRead (g.S.ChunkStore.answers l.store)) came l.pieces.items
