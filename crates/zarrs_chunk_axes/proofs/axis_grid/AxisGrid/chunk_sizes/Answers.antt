use Rattle.std.proofs.Common.{IsTrue, refl}
use Rattle.zarrs_chunk_axes.proofs.EachAxis.{answers_weaker, has_each, none_in_each}
use Rattle.zarrs_chunk_axes.proofs.axis_grid.AxisGrid.chunk_sizes.Goals as goal

pub returns : goal.returns
returns g c =
    let chunk = c.args.chunk.now in
    answers_weaker _ _ _ _ _ _ _ _ refl
    (λ v found. found)
    (λ none is_chunk. none_in_each _ (λ d c x. IsTrue (d.has_chunk c)) (λ d c x absent. absent) _ _ chunk none (has_each _ chunk is_chunk))
    c.look_up.ensures
