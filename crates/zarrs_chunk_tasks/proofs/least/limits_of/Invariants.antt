use Rattle.std.proofs.Common.{take}
use Rattle.zarrs_chunk_tasks.specs.seen.Least.{HasLimits}
use Rattle.zarrs_chunk_tasks.proofs.least.limits_of.Given as goal

-- the limits along the dimensions so far
abbrev pub invariant-loop-dimension : goal.invariant-loop-dimension
invariant-loop-dimension g l =
    HasLimits (take l.dimension (g.G.ChunkGridTraits.dimensions l.source)) (take l.dimension (g.H.ChunkGridTraits.dimensions l.target)) (take l.dimension l.first)
    (take l.dimension l.at) (take l.dimension l.shape) l.limits
