use Rattle.std.proofs.Common.{◌∙◌, ap, arith, map}
use Rattle.std.proofs.lemmas.List.{take_all}
use Rattle.std.specs.Int.NonZero.{non_zero_u64_get}
use Rattle.zarrs_chunk_base.specs.RunLength.{joined, single}
use Rattle.zarrs_chunks.proofs.SingleElements.{joined_singles}
use Rattle.zarrs_chunks.proofs.chunk_grid.edges.single_elements.Goals as goal

pub returns : goal.returns
returns c =
    let edges = c.args.edges.now in
    let all = take_all c.loop-edge.edge-index edges (omega (arith, c.loop-edge-test.false)) in
    ap joined (c.loop-edge.invariant ∙ ap (map (λ edge. single (non_zero_u64_get edge))) all) ∙ joined_singles edges
