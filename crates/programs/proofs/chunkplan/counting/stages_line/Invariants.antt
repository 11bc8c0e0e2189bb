use Rattle.programs.proofs.chunkplan.Common.{◌≡◌, ◌++◌, List, ℕ, AllZip, codes, flag_text, map, take}
use Rattle.programs.specs.chunkplan.CountsLine.{IsCountedStage, listed}
use Rattle.programs.specs.chunkplan.seen.Routes.{stage_of}
use Rattle.programs.proofs.chunkplan.counting.stages_line.Given as goal

-- the objects of the stages so far are there
abbrev pub invariant-loop-number : goal.invariant-loop-number
invariant-loop-number l =
    (objects : List (List ℕ)) × AllZip IsCountedStage (map stage_of (take l.number l.stages)) objects
    × (l.line.items ≡ ((codes "{\"exact\":" ++ flag_text l.fn.is_exact) ++ codes ",\"stages\":[") ++ listed objects)
