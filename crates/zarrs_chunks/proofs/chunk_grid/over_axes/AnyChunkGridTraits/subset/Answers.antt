use Rattle.zarrs_chunks.proofs.Subsets.{makes_box, no_ranges}
use Rattle.zarrs_chunks.proofs.chunk_grid.over_axes.AnyChunkGridTraits.subset.Goals as goal

pub returns-in_default : goal.returns-in_default
returns-in_default g c =
    let (same, none) = rw (c.in_default.is, c.axes.ensures.dimensions) at c.in_ok-start.ensures in
    (same, no_ranges _ _ none)

pub returns : goal.returns
returns g c =
    let (same, are) = rw (c.in-Some.is, c.axes.ensures.dimensions) at c.in_ok-start.ensures in
    rw c.ok.ensures.value (makes_box _ _ _ _ _ same are.origin are.shape c.new_with_start_shape.ensures)
