use Rattle.std.proofs.Common.{◌≡◌, ◌∙◌, ◌≤◌, Ok, true, ap, length, subst}
use Rattle.zarrs_chunk_axes.specs.seen.RowMajorWalk.{IsAtList, Stands, lists_from, lists_left, numbers_at}
use Rattle.zarrs_chunks.specs.Subsets.{AnswersSubset, HasNoBox, Spans}
use Rattle.zarrs_chunks.proofs.FittingChunks.{ComesBy, found_box, found_none, gives_box, passes, passes_fewer}
use Rattle.zarrs_chunks.proofs.walks.chunk_boxes.ChunkBoxes.step.Goals as goal

pub returns-in-Ok-Some-clause-steps : goal.returns-in-Ok-Some-clause-steps
returns-in-Ok-Some-clause-steps g c = λ over.
    let dimensions = g.G.ChunkGridTraits.dimensions in
    let old = c.args.self.now in
    let new = c.loop-found.self in
    let chunk = numbers_at new.walk in
    let same : new.grid.now ≡ old.grid.now = c.loop-found.invariant.grid in
    let by : ComesBy (dimensions old.grid.now) old.walk true new.walk =
    subst (λ found. ComesBy (dimensions old.grid.now) old.walk found new.walk) c.loop-found-test.true (c.loop-found.invariant.comes_by over)
    in
    let answers = subst (λ list. AnswersSubset (dimensions new.grid.now) list c.subset.result) c.numbers.ensures c.subset.ensures in
    let spans = found_box (dimensions new.grid.now) chunk c.subset.result c.in-Ok-Some.subset answers
    (c.in-Ok-Some.is ∙ ap Ok c.in-Ok-Some.field-0-is) in
    let (rest, is, fewer) = gives_box (dimensions old.grid.now) old.walk new.walk c.in-Ok-Some.subset by
    (subst (λ grid. Spans (dimensions grid) chunk chunk c.in-Ok-Some.subset) same spans)
    in
    (rw same rest, is, fewer)

pub loop-found-preserved : goal.loop-found-preserved
loop-found-preserved g c =
    let dimensions = g.G.ChunkGridTraits.dimensions in
    let old = c.args.self.now in
    let now = c.loop-found.self in
    let chunk = numbers_at now.walk in
    let same : now.grid.now ≡ old.grid.now = c.loop-found.invariant.grid in
    let at : IsAtList now.walk = subst (λ found. Stands found now.walk) c.loop-found-test.true c.loop-found.invariant.stands in
    let answers = subst (λ list. AnswersSubset (dimensions now.grid.now) list c.subset.result) c.numbers.ensures c.subset.ensures in
    let none = found_none (dimensions now.grid.now) chunk c.subset.result answers (c.in-Ok-None.is ∙ ap Ok c.in-Ok-None.field-0-is) in
    let (passed, is) = c.pass_over-found.ensures.passed in
    let stands = c.pass_over-found.ensures.stands in
    let shape = c.loop-found.invariant.shape in
    record {
      stands = stands;
      fewer = passes_fewer old.walk now.walk c.pass_over-found.result c.pass_over-found.new.self passed
          (subst (λ found. length (lists_from found now.walk) ≤ length (lists_left old.walk)) c.loop-found-test.true c.loop-found.invariant.fewer) is;
      comes_by = λ over.
          let by = subst (λ found. ComesBy (dimensions old.grid.now) old.walk found now.walk) c.loop-found-test.true
          (c.loop-found.invariant.comes_by over) in
          passes (dimensions old.grid.now) (g.met.G.ChunkGridTraits.chained old.grid.now) now.walk at (shape ∙ over) old.walk c.pass_over-found.result
          c.pass_over-found.new.self passed by is stands (subst (λ grid. HasNoBox (dimensions grid) chunk) same none);
      shape = c.pass_over-found.ensures.shape ∙ shape;
      grid = same;
    }
