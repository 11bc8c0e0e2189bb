use Rattle.std.proofs.Common.{◌∙◌, subst, sym}
use Rattle.zarrs_chunk_base.specs.Dimension.{Holds, IsPlace}
use Rattle.zarrs_chunk_base.proofs.InEach.{length_numbers}
use Rattle.zarrs_chunks.proofs.Boxes.{same_index}
use Rattle.zarrs_chunks.proofs.laws.key_and_place_determine_the_index.Goals as goal

pub returns : goal.returns
returns g c =
    let ds = g.G.ChunkGridTraits.dimensions c.args.grid.now in
    λ one other chunk other_chunk key place fit other_fit box other_box is also at other_at.
    let lengths = length_numbers Holds ds chunk one box ∙ sym (length_numbers Holds ds other_chunk other other_box) in
    let same = g.met.E.ChunkKeyEncodingTraits.exact c.args.encoding.now chunk other_chunk key fit other_fit lengths is also in
    same_index ds chunk one other place at (subst (λ list. IsPlace ds list other place) (sym same) other_at)
