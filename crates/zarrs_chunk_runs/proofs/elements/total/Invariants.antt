use Rattle.std.proofs.Common.{◌≡◌, ◌+◌, ◌≤◌, drop}
use Rattle.std.specs.List.{sum}
use Rattle.zarrs_chunk_base.specs.Greatest.{greatest}
use Rattle.zarrs_chunk_base.specs.RunLength.{expansion}
use Rattle.zarrs_chunk_runs.proofs.elements.total.Given as goal

-- the total so far and the edges that are left have the sum of all
abbrev pub invariant-loop-element : goal.invariant-loop-element
invariant-loop-element l = (l.total ≤ greatest) × (l.total + sum (expansion (drop l.element-index l.elements)) ≡ sum (expansion l.elements))
