use Rattle.std.proofs.Common.{◌<◌, ◌≤◌, refl, arith}
use Rattle.zarrs_chunk_base.specs.Dimension.{StartsAt}
use Rattle.zarrs_chunk_base.specs.Greatest.{greatest}
use Rattle.zarrs_chunk_base.proofs.InEach.{that_fit}
use Rattle.zarrs_chunk_axes.proofs.EachAxis.{answers_weaker, none_in_each}
use Rattle.zarrs_chunk_axes.proofs.axis_grid.AxisGrid.chunk_origin.Goals as goal

pub returns : goal.returns
returns g c =
    answers_weaker _ _ _ _ _ _ _ _ refl
    (λ v found. found)
    (λ none origin is_origin fit. none_in_each _ (λ d c o. StartsAt d c o × (o ≤ greatest))
    (λ d c o past (starts, small). let large : greatest < o = past o starts in absurd (omega arith)) _ _ origin none
    (that_fit StartsAt _ _ origin is_origin fit))
    c.look_up.ensures
