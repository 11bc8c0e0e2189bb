use Rattle.std.proofs.Common.{◌∙◌, subst, sym}
use Rattle.zarrs_chunk_base.specs.Dimension.{Holds, IsPlace}
use Rattle.zarrs_chunk_base.proofs.InEach.{length_numbers}
use Rattle.zarrs_chunks.proofs.Boxes.{same_index}
use Rattle.zarrs_chunks.proofs.laws.answers_of_locate_determine_the_index.Goals as goal

pub returns : goal.returns
returns g c =
    let ds = g.G.ChunkGridTraits.dimensions c.args.grid.now in
    let one = c.args.one.now.chunk.items in
    let other = c.args.other.now.chunk.items in
    let fit = rw c.deref.ensures.value at c.numbers_fit.ensures in
    let other_fit = rw c.deref-2.ensures.value at c.numbers_fit-2.ensures in
    λ index other_index is also key place.
    let lengths = length_numbers Holds ds one index is.box ∙ sym (length_numbers Holds ds other other_index also.box) in
    let same_key = subst (λ text. g.E.ChunkKeyEncodingTraits.is_key c.args.encoding.now other text) (sym key) also.key in
    let same = g.met.E.ChunkKeyEncodingTraits.exact c.args.encoding.now one other c.args.one.now.key fit other_fit lengths is.key same_key in
    same_index ds one index other_index c.args.one.now.element.items is.place
    (subst (λ list. IsPlace ds one other_index list) (sym place)
    (subst (λ list. IsPlace ds list other_index c.args.other.now.element.items) (sym same) also.place))
