use Rattle.std.proofs.Common.{ℕ, ◌+◌, ◌<◌, ◌≤◌, length, slice_index_or}
use Rattle.std.specs.List.Sorted.{IsNonDecreasing}
use Rattle.zarrs_chunk_prepared.proofs.search.last_up_to.Given as goal

-- The numbers that are left begin at the place, and are some of all. In numbers that don't fall, of which the first is up to the one that is sought,
-- so is the one at the place, and those behind the numbers that are left are past it.
abbrev pub invariant-loop-left : goal.invariant-loop-left
invariant-loop-left l = record {
  some : 0 < l.left;
  within : l.place + l.left ≤ length l.numbers;
  found : IsNonDecreasing l.numbers → slice_index_or l.numbers 0 0 ≤ l.sought → slice_index_or l.numbers l.place 0 ≤ l.sought;
  past : IsNonDecreasing l.numbers → slice_index_or l.numbers 0 0 ≤ l.sought
      → (later : ℕ) → l.place + l.left ≤ later → later < length l.numbers → l.sought < slice_index_or l.numbers later 0;
}

-- how many are left
abbrev pub decreases-loop-left : goal.decreases-loop-left
decreases-loop-left l = l.left
