use Rattle.std.proofs.Common.{◌∙◌, sym, arith}
use Rattle.zarrs_chunk_parts.proofs.InPlace.{are_shared_sizes}
use Rattle.zarrs_chunk_parts.proofs.shared.sizes_shared.Goals as goal

pub returns : goal.returns
returns c =
    let (as_many, shared, _) = c.loop-dimension.invariant in
    let other = c.args.other.now in
    are_shared_sizes c.args.start.now c.args.sizes.items other.start other.shape c.loop-dimension.sizes.items c.requires.sizes c.requires.other
    (sym c.start-starts.ensures.is_box.lengths ∙ c.requires.other) as_many (λ k below. shared k (omega arith))
