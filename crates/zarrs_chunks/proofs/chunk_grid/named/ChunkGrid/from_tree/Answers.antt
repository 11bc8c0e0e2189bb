use Rattle.serde_json.specs.View.{view}
use Rattle.zarrs_chunk_base.specs.Metadata.{extension_of}
use Rattle.zarrs_chunk_base.proofs.TreeFaults.{of_extension}
use Rattle.zarrs_chunks.specs.GridKinds.{IsGridFault, IsGridIn}
use Rattle.zarrs_chunks.specs.seen.Grids.{grid_in, kind_in}
use Rattle.zarrs_chunks.proofs.chunk_grid.named.ChunkGrid.from_tree.Goals as goal

pub returns-in_err-from_metadata-clause-made : goal.returns-in_err-from_metadata-clause-made
returns-in_err-from_metadata-clause-made c =
    of_extension (λ grid. IsGridIn (view c.args.tree.now) c.args.array_shape.now (kind_in grid) (grid_in grid))
    (λ e. IsGridFault e c.args.array_shape.now) (view c.args.tree.now) (extension_of c.in_ok-metadata.metadata) _
    c.from_residual-in_err-from_metadata.result c.in_ok-metadata.ensures c.in_err-from_metadata.ensures.made
    c.from_residual-in_err-from_metadata.ensures.1

pub returns-clause-made : goal.returns-clause-made
returns-clause-made c = (extension_of c.in_ok-metadata.metadata, c.in_ok-metadata.ensures, c.in_ok-from_metadata.ensures.made)
