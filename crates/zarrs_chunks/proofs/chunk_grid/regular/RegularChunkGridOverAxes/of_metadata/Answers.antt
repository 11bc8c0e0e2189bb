use Rattle.std.proofs.Common.{map, rules}
use Rattle.std.specs.Int.NonZero.{non_zero_u64_get}
use Rattle.zarrs_chunk_axes.specs.EqualEdges.{IsEqualEdges}
use Rattle.zarrs_chunks.proofs.Configured.{are_of_one_length}
use Rattle.zarrs_chunks.proofs.chunk_grid.regular.RegularChunkGridOverAxes.of_metadata.Goals as goal

pub returns-in-Ok-clause-made : goal.returns-in-Ok-clause-made
returns-in-Ok-clause-made c =
    let copied = c.in_ok-array_shape.ensures.items_if_clones_equal (λ x y same. same) in
    let edges = map non_zero_u64_get c.in_ok-configuration.configuration.chunk_shape.items in
    (edges, search rules, are_of_one_length IsEqualEdges _ _ _ _ c.in-Ok.ensures.made copied, (search rules, c.in-Ok.ensures.edges))
