use Rattle.programs.proofs.chunkplan.Common.{◌≡◌, map, take, non_zero_u64_get}
use Rattle.programs.proofs.chunkplan.stages.numbers_of.Given as goal

-- the numbers so far are those of the edges so far
abbrev pub invariant-loop-edge : goal.invariant-loop-edge
invariant-loop-edge l = l.numbers.items ≡ map non_zero_u64_get (take l.edge-index l.edges)
