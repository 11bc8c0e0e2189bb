use Rattle.serde_json.specs.View.{view}
use Rattle.zarrs_chunks.specs.GridKinds.{IsNoGridIn}
use Rattle.zarrs_chunks.specs.seen.Grids.{grid_in}
use Rattle.zarrs_chunk_batches.specs.Said.{SaysGrid}
use Rattle.zarrs_chunk_batches.proofs.NotMade.{of_tree}
use Rattle.zarrs_chunk_batches.proofs.metadata.grid_of.Goals as goal

pub returns-in_err-from_tree-clause-made : goal.returns-in_err-from_tree-clause-made
returns-in_err-from_tree-clause-made c =
    of_tree (λ grid. SaysGrid c.args.chunk_grid.now c.args.shape.now (grid_in grid)) (λ tree. IsNoGridIn tree c.args.shape.now)
    c.args.chunk_grid.now (view c.in_ok-tree.tree) _ c.from_residual-in_err-from_tree.result c.in_ok-tree.ensures.said
    c.in_err-from_tree.ensures.made c.from_residual-in_err-from_tree.ensures.1
