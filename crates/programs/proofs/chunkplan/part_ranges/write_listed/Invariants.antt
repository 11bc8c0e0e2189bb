use Rattle.programs.proofs.chunkplan.Common.{take, Adds}
use Rattle.programs.proofs.chunkplan.Tokens.{ranges_so_far}
use Rattle.programs.proofs.chunkplan.part_ranges.write_listed.Given as goal

-- the ranges so far were written
abbrev pub invariant-loop-start : goal.invariant-loop-start
invariant-loop-start l = Adds l.initial.json l.json (ranges_so_far l.length (take l.start-index l.starts))
