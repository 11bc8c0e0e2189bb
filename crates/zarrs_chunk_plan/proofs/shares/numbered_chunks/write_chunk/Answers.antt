use Rattle.zarrs_chunk_plan.proofs.Common.{◌≡◌, ◌+◌, ◌-◌, ◌<◌, ◌%◌, slice_index_or, subst, arith}
use Rattle.zarrs_chunk_plan.proofs.ByNumber.{IsNumbered, as_many, numbered_all, numbered_more, numbered_none, some_size, sum_fits}
use Rattle.zarrs_chunk_plan.proofs.shares.numbered_chunks.write_chunk.Goals as goal

pub loop-dimension-init : goal.loop-dimension-init
loop-dimension-init c = numbered_none c.args.start.now c.args.shape.now c.args.number c.args.chunk.now c.requires.length c.requires.is_box.lengths

pub nonzero_rem-chunk : goal.nonzero_rem-chunk
nonzero_rem-chunk c =
    let lists = as_many c.args.start.now c.args.shape.now in
    some_size c.args.shape.now (c.loop-dimension.dimension - 1) (omega arith) (omega arith)

pub nonzero_div-rest : goal.nonzero_div-rest
nonzero_div-rest c =
    let lists = as_many c.args.start.now c.args.shape.now in
    some_size c.args.shape.now (c.loop-dimension.dimension - 1) (omega arith) (omega arith)

pub overflow_add-chunk : goal.overflow_add-chunk
overflow_add-chunk c =
    let lists = as_many c.args.start.now c.args.shape.now in
    let shape = c.args.shape.now in
    let before = c.loop-dimension.dimension - 1 in
    let some = some_size shape before (omega arith) (omega arith) in
    let digit = c.loop-dimension.rest % slice_index_or shape before 0 in
    let less : digit < slice_index_or shape before 0 = omega arith in
    let fits = sum_fits c.args.start.now shape before digit c.requires.is_box.fits (omega arith) (omega arith) less in
    omega arith

pub loop-dimension-preserved : goal.loop-dimension-preserved
loop-dimension-preserved c =
    let lists = as_many c.args.start.now c.args.shape.now in
    let before = c.loop-dimension.dimension - 1 in
    let is : c.loop-dimension.dimension ≡ before + 1 = omega arith in
    numbered_more c.args.start.now c.args.shape.now c.args.number before c.loop-dimension.rest c.loop-dimension.chunk
    (subst (λ d. IsNumbered c.args.start.now c.args.shape.now c.args.number d c.loop-dimension.rest c.loop-dimension.chunk) is
    c.loop-dimension.invariant) c.requires.is_box.lengths (omega arith)
    (some_size c.args.shape.now before (omega arith) (omega arith))

pub returns : goal.returns
returns c =
    let lists = as_many c.args.start.now c.args.shape.now in
    let ended : c.loop-dimension.dimension ≡ 0 = omega arith in
    numbered_all c.args.start.now c.args.shape.now c.args.number c.loop-dimension.rest c.loop-dimension.chunk (omega arith)
    (subst (λ d. IsNumbered c.args.start.now c.args.shape.now c.args.number d c.loop-dimension.rest c.loop-dimension.chunk) ended
    c.loop-dimension.invariant)
