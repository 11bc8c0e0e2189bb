-- How a count of comparisons is seen.
use Rattle.std.specs.Prelude.{ℕ}
use Rattle.zarrs_chunk_runs.specs.declared.comparisons.Comparisons.{Comparisons}

-- how many comparisons have been made
abbrev pub count_of : Comparisons → ℕ
count_of comparisons = comparisons.count
