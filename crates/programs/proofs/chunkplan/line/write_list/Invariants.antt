use Rattle.programs.proofs.chunkplan.Common.{decimal, map, take, number, Adds}
use Rattle.programs.proofs.chunkplan.line.write_list.Given as goal

-- the numbers so far were written
abbrev pub invariant-loop-number : goal.invariant-loop-number
invariant-loop-number l = Adds l.initial.json l.json (map (λ n. number (decimal n)) (take l.number-index l.numbers))
