-- How the groups of chunks are found, and the chunks of a group.
use Rattle.std.specs.Prelude.{ℕ, ◌+◌, ◌-◌, ◌/◌, List, map, min}
use Rattle.std.specs.Int.NonZero.{non_zero_u64_get}
use Rattle.std.specs.List.{zip}
use Rattle.std.specs.declared.num.NonZeroU64.{NonZeroU64}
use Rattle.zarrs_chunk_base.specs.Greatest.{greatest}

-- along each dimension the group that joins a chunk
abbrev pub groups_of : List NonZeroU64 → (chunk : List ℕ) → List ℕ
groups_of each chunk = map (λ p. p.1 / non_zero_u64_get p.0) (zip each chunk)

-- how many numbers there are from one up to another
abbrev pub counts_to : (first last : List ℕ) → List ℕ
counts_to first last = map (λ p. min (p.1 - p.0 + 1) greatest) (zip first last)
