use Rattle.std.proofs.Common.{arith}
use Rattle.zarrs_chunk_parts.proofs.InPlace.{are_distances}
use Rattle.zarrs_chunk_parts.proofs.shared.distance.Goals as goal

pub returns : goal.returns
returns c =
    let (as_many, steps, _) = c.loop-dimension.invariant in
    are_distances c.args.from.items c.args.to.now c.loop-dimension.from.items c.requires as_many (λ k below. steps k (omega arith))
