use Rattle.std.proofs.Common.{◌≡◌, take}
use Rattle.zarrs_chunks.specs.Subsets.{IsCover}
use Rattle.zarrs_chunk_plan.specs.seen.Sources.{taken_sizes}
use Rattle.zarrs_chunk_tasks.specs.Groups.{HoldsSomeOf}
use Rattle.zarrs_chunk_tasks.proofs.Buffers.{befores}
use Rattle.zarrs_chunk_tasks.proofs.GroupBoxes.{groups, numbers}
use Rattle.zarrs_chunk_tasks.proofs.buffer.buffer_of.Given as goal

-- the dimensions so far have what the group takes
abbrev pub invariant-loop-dimension : goal.invariant-loop-dimension
invariant-loop-dimension g l =
    let ds = g.G.ChunkGridTraits.dimensions l.grid in
    IsCover ds l.elements l.cover → HoldsSomeOf ds (numbers l.each) l.elements l.group
    → (l.start.items ≡ take l.dimension (befores (groups ds l.each) l.elements.start l.group))
    × (l.shape.items ≡ take l.dimension (taken_sizes (groups ds l.each) l.elements.start l.elements.shape l.group))
