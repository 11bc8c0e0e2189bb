-- The stages of a copy, as the program finds them and goes through them.

use Rattle.programs.specs.chunkplan.Common.{List, map, non_zero_u64_get, option_map, ℕ, Box, grid_in}
use Rattle.zarrs_chunk_base.specs.Grid.{Grid}
use Rattle.programs.specs.chunkplan.Planned.{Array}
use Rattle.programs.specs.chunkplan.Stages.{Stage, Stages, staged}
use Rattle.programs.specs.chunkplan.seen.Opened.{array_in}
use Rattle.programs.specs.declared.chunkplan.route.FoundRoute.{FoundRoute}
use Rattle.programs.specs.declared.chunkplan.route.Intermediate.{Intermediate}
use Rattle.programs.specs.declared.chunkplan.route.Route.{Route}
use Rattle.programs.specs.declared.chunkplan.route.Stage.{Stage as StageValue}

-- an intermediate array, with the shape of its chunks
abbrev pub intermediate_of : Intermediate → Grid × List ℕ
intermediate_of between = (grid_in between.array.grid, between.chunk_shape.items)

-- the stages of a route, and whether they are exact
abbrev pub stages_by : (source target : Array) → (region : Box) → (at : List ℕ) → Route → Stages
stages_by source target region at route = (
  route.is_exact,
  staged route.order source target region at (map intermediate_of route.between.items) (map (λ each. map non_zero_u64_get each.items) route.each.items),
)

-- so of the route that was found for a copy
abbrev pub stages_found : (source target : Array) → FoundRoute → Stages
stages_found source target found = stages_by source target found.region found.at.items found.route

abbrev pub stage_of : StageValue → Stage
stage_of stage = record {
  source = array_in stage.source.now;
  target = array_in stage.target.now;
  region = stage.region;
  at = stage.at.items;
  order = stage.order;
  each = map non_zero_u64_get stage.each.now;
  intermediate = option_map (λ shape. shape.now) stage.intermediate;
}
