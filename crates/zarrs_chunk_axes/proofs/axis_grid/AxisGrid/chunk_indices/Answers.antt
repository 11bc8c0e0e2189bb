use Rattle.std.proofs.Common.{refl}
use Rattle.zarrs_chunk_base.specs.Dimension.{Holds}
use Rattle.zarrs_chunk_base.proofs.InEach.{turned}
use Rattle.zarrs_chunk_axes.proofs.EachAxis.{answers_weaker, none_in_each}
use Rattle.zarrs_chunk_axes.proofs.axis_grid.AxisGrid.chunk_indices.Goals as goal

pub returns : goal.returns
returns g c =
    let index = c.args.indices.now in
    answers_weaker _ _ _ _ _ _ _ _ refl
    (λ v found. turned (λ d i c. Holds d c i) _ _ _ found)
    (λ none chunk box. none_in_each _ (λ d i c. Holds d c i) (λ d i c absent. absent c) _ index chunk none (turned Holds _ chunk index box))
    c.look_up.ensures
