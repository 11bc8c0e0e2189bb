use Rattle.zarrs_chunk_plan.proofs.Common.{◌≡◌, ◌∙◌, ap, arith, length, take_all, slice_get, chunks_in}
use Rattle.zarrs_chunk_plan.proofs.copy.MarkedChunks.{counted_within, length_start, place_more}
use Rattle.zarrs_chunk_plan.proofs.copy.stored_chunks.number_in.Goals as goal

pub bounds-chunk-dimension : goal.bounds-chunk-dimension
bounds-chunk-dimension c =
    let (within, _, _) = counted_within _ _ _ _ c.start-start.ensures.value c.shape-shape.ensures.value c.requires.inside c.requires.few in
    let (_, long) = length_start c.start-start.result.now c.shape-shape.result.now c.args.chunk.now within in
    omega arith

pub loop-dimension-init : goal.loop-dimension-init
loop-dimension-init c = omega arith

pub loop-dimension-preserved : goal.loop-dimension-preserved
loop-dimension-preserved c =
    let (within, _, _) = counted_within _ _ _ _ c.start-start.ensures.value c.shape-shape.ensures.value c.requires.inside c.requires.few in
    c.saturating_add-number.ensures ∙ rw (c.saturating_mul.ensures, c.saturating_sub-steps.ensures) (place_more _ _ _ within _ _ c.loop-dimension-test.true c.loop-dimension.invariant)

pub returns-clause-number : goal.returns-clause-number
returns-clause-number c =
    let (within, few, found) = counted_within _ _ _ _ c.start-start.ensures.value c.shape-shape.ensures.value c.requires.inside c.requires.few in
    let start = c.start-start.result.now in
    let shape = c.shape-shape.result.now in
    let chunk = c.args.chunk.now in
    let (one, other) = length_start start shape chunk within in
    let last : c.loop-dimension.dimension ≡ length shape = omega arith in
    let is = rw (last, take_all (length shape) start (omega arith), take_all (length shape) shape (omega arith), take_all (length shape) chunk (omega arith))
    at c.loop-dimension.invariant in
    ap (slice_get (chunks_in c.args.chunks.now)) (omega (arith, is, few)) ∙ found
