use Rattle.std.proofs.Common.{◌≡◌, ◌∙◌, ap₂, cond, subst}
use Rattle.zarrs_chunk_base.specs.ArraySubset.{Box}
use Rattle.zarrs_chunk_base.specs.Grid.{Grid}
use Rattle.zarrs_chunk_prepared.specs.LookedUp.{HasNoCover, IsCoverOf}
use Rattle.zarrs_chunk_prepared.specs.seen.PreparedGrid.{IsReadOf, width_of}
use Rattle.zarrs_chunk_batches.specs.Batch.{list_at}
use Rattle.zarrs_chunk_batches.specs.GridCalls.{box_asked}
use Rattle.zarrs_chunk_batches.proofs.PreparedAnswers.{of_each}
use Rattle.zarrs_chunk_batches.proofs.questions.CoversQuestions.answer.Goals as goal

pub returns-clause-answers : goal.returns-clause-answers
returns-clause-answers c =
    let self = c.args.self.now in
    let asked = box_asked (width_of self.grid) self.starts.now self.shapes.now c.args.number in
    let start = subst
    (λ width. c.list_of-start.result.now ≡ list_at width self.starts.now c.args.number) c.dimensionality.ensures c.list_of-start.ensures in
    let shape = subst
    (λ width. c.list_of-shape.result.now ≡ list_at width self.shapes.now c.args.number) c.dimensionality-2.ensures c.list_of-shape.ensures in
    let cover : Box = record { start = c.find_cover.new.first; shape = c.find_cover.new.counts } in
    of_each (λ (grid : Grid). IsReadOf grid self.grid) (λ grid. IsCoverOf grid.dimensions asked cover) (λ grid. HasNoCover grid.dimensions asked)
    c.in_ok-find_cover.field-0
    (λ grid are.
    subst (λ b. cond c.in_ok-find_cover.field-0 (IsCoverOf grid.dimensions b cover) (HasNoCover grid.dimensions b))
    (c.in_ok-elements.ensures.value ∙ ap₂ {C = Box} (λ s h. record { start = s; shape = h }) start shape)
    (c.in_ok-find_cover.ensures.cover grid are))
