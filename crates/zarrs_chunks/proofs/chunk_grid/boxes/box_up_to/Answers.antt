use Rattle.std.proofs.Common.{◌∙◌, sym}
use Rattle.std.proofs.lemmas.List.Elements.{length_all_zip}
use Rattle.zarrs_chunks.proofs.UpTo.{made_up_to, reaches}
use Rattle.zarrs_chunks.proofs.chunk_grid.boxes.box_up_to.Goals as goal

pub returns : goal.returns
returns c =
    let (many, each) = rw c.deref.ensures.value at c.in_ok-shape.ensures in
    let lengths = c.requires.lengths in
    let same = length_all_zip _ _ _ c.requires.before in
    rw c.ok.ensures.value
    (made_up_to _ _ _ _ _ (many ∙ lengths ∙ sym same) (reaches _ _ _ _ c.requires.before lengths many each) c.new_with_start_shape.ensures)
