use Rattle.zarrs_chunks.proofs.Subsets.{makes_box, no_origin, no_chunk}
use Rattle.zarrs_chunks.proofs.chunk_grid.ChunkGridTraits.subset.Goals as goal

pub returns-in_default : goal.returns-in_default
returns-in_default g c =
    let (same, none) = rw c.in_default.is at c.in_ok-origin.ensures in
    (same, no_origin _ _ none)

pub returns-in_default-2 : goal.returns-in_default-2
returns-in_default-2 g c =
    let (same, none) = rw c.in_default-2.is at c.in_ok-shape.ensures in
    (same, no_chunk _ _ none)

pub returns : goal.returns
returns g c =
    let (same, is) = rw c.in-Some.is at c.in_ok-origin.ensures in
    let (_, edge) = rw c.in-Some-2.is at c.in_ok-shape.ensures in
    rw c.ok.ensures.value (makes_box _ _ _ _ _ same is edge c.new_with_start_shape.ensures)
