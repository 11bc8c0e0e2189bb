-- Run-length elements that stand for one edge each.
use Rattle.std.proofs.Common.{◌≡◌, List, [], ◌∷◌, map, refl, ap}
use Rattle.std.specs.Int.NonZero.{non_zero_u64_get}
use Rattle.std.specs.declared.num.NonZeroU64.{NonZeroU64}
use Rattle.zarrs_chunk_base.specs.RunLength.{joined, single}

pub joined_singles : (edges : List NonZeroU64) → joined (map (λ edge. single (non_zero_u64_get edge)) edges) ≡ map non_zero_u64_get edges
joined_singles [] = refl
joined_singles (edge ∷ edges) = ap (λ rest. non_zero_u64_get edge ∷ rest) (joined_singles edges)
