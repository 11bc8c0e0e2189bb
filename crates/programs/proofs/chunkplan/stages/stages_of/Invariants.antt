use Rattle.programs.proofs.chunkplan.Common.{◌≡◌, ◌++◌, drop, map, non_zero_u64_get}
use Rattle.programs.specs.chunkplan.Stages.{staged}
use Rattle.programs.specs.chunkplan.seen.Opened.{array_in}
use Rattle.programs.specs.chunkplan.seen.Routes.{intermediate_of, stage_of, stages_found}
use Rattle.programs.proofs.chunkplan.stages.stages_of.Given as goal

-- the stages so far, and those from the array that they lead to, are all
abbrev pub invariant-loop-number : goal.invariant-loop-number
invariant-loop-number l =
    map stage_of l.stages.items
    ++ staged l.route.order (array_in l.from) (array_in l.target) l.left l.found.at.items (map intermediate_of (drop l.number l.route.between.items))
    (map (λ each. map non_zero_u64_get each.items) (drop l.number l.route.each.items))
    ≡ (stages_found (array_in l.source) (array_in l.target) l.found).1
