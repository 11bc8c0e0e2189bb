use Rattle.std.proofs.Common.{◌∙◌, ⊎_elim}
use Rattle.zarrs_chunks.proofs.Covers.{none_is_not_empty, over_box_covers}
use Rattle.zarrs_chunks.proofs.chunk_grid.over_axes.AnyChunkGridTraits.chunks_in_array_subset.Goals as goal

pub returns-clause-answers : goal.returns-clause-answers
returns-clause-answers g c =
    let b = c.args.array_subset.now in
    let is_box = c.is_a_box.ensures in
    let (agree, over) = rw (c.in-Some.is, c.axes.ensures.dimensions) at c.in_ok-first.ensures in
    λ either. rw c.ok.ensures.value
    (over_box_covers _ b _ _ _ (g.met.G.OverAxes.axes_chained c.args.self.now) is_box
    (⊎_elim (λ some. some) (λ none. none_is_not_empty b is_box (agree ∙ none)) either) agree over c.new_with_start_shape.ensures)
