use Rattle.std.proofs.Common.{◌≡◌, ℕ, ◌++◌, List}
use Rattle.std.specs.List.{AllZip}
use Rattle.zarrs_chunks.specs.Walks.{chunks_in}
use Rattle.zarrs_chunks.specs.seen.Walks.{chunks_in_left}
use Rattle.callers.proofs.reading.read_part.Given as goal

-- there is an element for each place that came
abbrev pub invariant-loop-place : goal.invariant-loop-place
invariant-loop-place g l =
    (came : List (List ℕ)) × (chunks_in l.part.in_chunk ≡ came ++ chunks_in_left l.place-iterator)
    × AllZip (g.S.ChunkStore.answers l.store l.part.key) came l.elements.items
