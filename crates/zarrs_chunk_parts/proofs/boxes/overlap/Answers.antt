use Rattle.zarrs_chunks.proofs.Subsets.{starts_fit}
use Rattle.zarrs_chunk_parts.proofs.Overlaps.{overlap_holds, overlap_is_box}
use Rattle.zarrs_chunk_parts.proofs.boxes.overlap.Goals as goal

pub box_of-requires : goal.box_of-requires
box_of-requires c =
    let one = c.args.one.now in
    let other = c.args.other.now in
    let starts = rw (c.start.ensures.value, c.start-2.ensures.value) at c.in_ok-start.ensures in
    let sizes = rw (c.start-3.ensures.value, c.in_ok-from_slice.ensures.items, c.shape.ensures.value) at c.sizes_shared-shape.ensures in
    let is_one = c.start.ensures.is_box in
    let is_other = c.start-2.ensures.is_box in
    let fit = starts_fit one.start one.shape is_one.lengths is_one.fits in
    rw (starts, sizes)
    (overlap_is_box one.start one.shape other.start other.shape is_one.lengths is_other.lengths c.requires fit is_other.fits)

pub returns-clause-shape : goal.returns-clause-shape
returns-clause-shape c =
    let sizes = rw (c.start-3.ensures.value, c.in_ok-from_slice.ensures.items, c.shape.ensures.value) at c.sizes_shared-shape.ensures in
    rw c.box_of.ensures sizes

pub returns-clause-common : goal.returns-clause-common
returns-clause-common c = λ index.
    let one = c.args.one.now in
    let other = c.args.other.now in
    let starts = rw (c.start.ensures.value, c.start-2.ensures.value) at c.in_ok-start.ensures in
    let sizes = rw (c.start-3.ensures.value, c.in_ok-from_slice.ensures.items, c.shape.ensures.value) at c.sizes_shared-shape.ensures in
    let is_one = c.start.ensures.is_box in
    let is_other = c.start-2.ensures.is_box in
    rw (c.box_of.ensures, starts, sizes)
    (overlap_holds one.start one.shape other.start other.shape index is_one.lengths is_other.lengths c.requires is_other.fits)
