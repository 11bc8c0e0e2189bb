use Rattle.std.proofs.Common.{◌≡◌, ◌+◌, ◌-◌, ◌<◌, ◌≤◌, ℕ, slice_index_or}
use Rattle.zarrs_chunk_base.specs.Greatest.{greatest}
use Rattle.zarrs_chunk_prepared.proofs.covers.count_from.Given as goal

-- the dimensions so far hold counts, and the others still the last chunks
abbrev pub invariant-loop-dimension : goal.invariant-loop-dimension
invariant-loop-dimension l = record {
  counted : (k : ℕ) → k < l.dimension → slice_index_or l.first k 0 ≤ slice_index_or l.initial.last k 0 → slice_index_or l.initial.last k 0 < greatest
      → slice_index_or l.last k 0 ≡ slice_index_or l.initial.last k 0 - slice_index_or l.first k 0 + 1;
  later : (k : ℕ) → l.dimension ≤ k → slice_index_or l.last k 0 ≡ slice_index_or l.initial.last k 0;
}
