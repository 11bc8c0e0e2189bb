use Rattle.std.proofs.lemmas.Result.{MatchResult-weaker}
use Rattle.zarrs_chunk_axes.proofs.EqualAxes.{have_edges}
use Rattle.zarrs_chunks.proofs.chunk_grid.regular.RegularChunkGrid.chunk_shape_u64.Goals as goal

pub returns : goal.returns
returns c =
    MatchResult-weaker c.edge_numbers.result c.edge_numbers.ensures.items
    (λ v is. rw (is, c.deref.ensures.value, c.args.self.now.edges) (have_edges c.args.self.now.axes.axes.items)) (λ e h. tt)
