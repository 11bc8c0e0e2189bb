use Rattle.std.proofs.Common.{◌∙◌, refl}
use Rattle.zarrs_chunk_prepared.proofs.EachDimension.{are_spans, no_box}
use Rattle.zarrs_chunk_prepared.proofs.grid.PreparedGrid.find_box.Goals as goal

pub returns-then-not-have_ranges-clause-spans : goal.returns-then-not-have_ranges-clause-spans
returns-then-not-have_ranges-clause-spans c grid are =
    let (k, within, none) = rw c.deref.ensures.value at (c.if-not-have_ranges.ensures.one refl) in
    no_box grid.dimensions c.args.self.now.axes.items c.args.chunk.now are k within none

pub returns-clause-spans : goal.returns-clause-spans
returns-clause-spans c grid are =
    are_spans grid.dimensions c.args.self.now.axes.items c.args.chunk.now c.write_box.new.origin c.write_box.new.shape are c.in_ok-check_three.ensures.0
    (c.write_box.auto.origin ∙ c.in_ok-check_three.ensures.1) (c.write_box.auto.shape ∙ c.in_ok-check_three.ensures.2)
    (rw c.deref-2.ensures.value at c.write_box.ensures)
