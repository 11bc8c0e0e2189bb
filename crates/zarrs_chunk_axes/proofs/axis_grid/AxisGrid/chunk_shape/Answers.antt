use Rattle.std.proofs.Common.{IsTrue, refl}
use Rattle.std.specs.Int.NonZero.{non_zero_u64_get}
use Rattle.zarrs_chunk_base.specs.Dimension.{HasEdge}
use Rattle.zarrs_chunk_base.proofs.InEach.{mapped}
use Rattle.zarrs_chunk_axes.proofs.EachAxis.{answers_weaker, none_in_each, has_each}
use Rattle.zarrs_chunk_axes.proofs.axis_grid.AxisGrid.chunk_shape.Goals as goal

pub returns : goal.returns
returns g c =
    let chunk = c.args.chunk.now in
    answers_weaker _ _ _ _ _ _ _ _ refl
    (λ v found. mapped non_zero_u64_get HasEdge _ chunk v.items found)
    (λ none is_chunk. none_in_each _ (λ d c x. IsTrue (d.has_chunk c)) (λ d c x absent. absent) _ _ chunk none (has_each _ chunk is_chunk))
    c.look_up.ensures
