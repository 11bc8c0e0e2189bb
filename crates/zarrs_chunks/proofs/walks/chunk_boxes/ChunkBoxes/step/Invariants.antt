use Rattle.std.proofs.Common.{◌≡◌, ◌≤◌, length}
use Rattle.zarrs_chunk_axes.specs.seen.RowMajorWalk.{Stands, lists_from, lists_left, shape_of}
use Rattle.zarrs_chunks.specs.seen.Walks.{IsOverGrid}
use Rattle.zarrs_chunks.proofs.FittingChunks.{ComesBy}
use Rattle.zarrs_chunks.proofs.walks.chunk_boxes.ChunkBoxes.step.Given as goal

-- the walk stands at a chunk, or it has ended; and where it goes through its grid's chunks, no chunk that has a box was passed over
abbrev pub invariant-loop-found : goal.invariant-loop-found
invariant-loop-found g l = record {
  stands : Stands l.found l.self.walk;
  fewer : length (lists_from l.found l.self.walk) ≤ length (lists_left l.fn.self.walk);
  comes_by : IsOverGrid g.G.ChunkGridTraits.dimensions l.fn.self
      → ComesBy (g.G.ChunkGridTraits.dimensions l.fn.self.grid.now) l.fn.self.walk l.found l.self.walk;
  shape : shape_of l.self.walk ≡ shape_of l.fn.self.walk;
  grid : l.self.grid.now ≡ l.fn.self.grid.now;
}

-- fewer chunks are left
abbrev pub decreases-loop-found : goal.decreases-loop-found
decreases-loop-found g l = length (lists_from l.found l.self.walk)
