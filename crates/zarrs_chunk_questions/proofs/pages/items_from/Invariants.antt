use Rattle.std.proofs.Common.{◌≡◌, ◌≤◌, map}
use Rattle.serde_json.specs.View.{view}
use Rattle.zarrs_chunk_questions.proofs.WalkPages.{items_until}
use Rattle.zarrs_chunk_questions.proofs.pages.items_from.Given as goal

-- the items so far are those of the chunks so far
abbrev pub invariant-loop-passed : goal.invariant-loop-passed
invariant-loop-passed g l =
    (l.passed ≤ l.count) × (map view l.items.items ≡ items_until l.walk (g.G.ChunkGridTraits.dimensions l.grid) l.first l.passed)
