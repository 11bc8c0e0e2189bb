use Rattle.std.proofs.Common.{◌≡◌, ◌<◌, map, min, suc, take}
use Rattle.std.specs.List.{AllByRecursion}
use Rattle.zarrs_chunk_base.specs.Greatest.{greatest}
use Rattle.zarrs_chunk_plan.specs.Counts.{product}
use Rattle.zarrs_chunk_tasks.specs.Cheapest.{most_sizes}
use Rattle.zarrs_chunk_tasks.proofs.tried.chunks_to.Given as goal

-- the chunks along the dimensions so far are counted
abbrev pub invariant-loop-dimension : goal.invariant-loop-dimension
invariant-loop-dimension l =
    AllByRecursion (λ n. n < most_sizes) l.last → l.chunks ≡ min greatest (product (map suc (take l.dimension l.last)))
