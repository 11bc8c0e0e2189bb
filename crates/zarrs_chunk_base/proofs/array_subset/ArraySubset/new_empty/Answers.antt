use Rattle.zarrs_chunk_base.proofs.Boxes as boxes
use Rattle.zarrs_chunk_base.proofs.array_subset.ArraySubset.new_empty.Goals as goal

pub invariant_of-result : goal.invariant_of-result
invariant_of-result c = rw (c.in_ok-zeros.ensures, c.in_ok-zeros-2.ensures) (boxes.zero_is_box c.args.dimensionality)
